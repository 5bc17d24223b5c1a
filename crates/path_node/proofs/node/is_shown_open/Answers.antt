use Rattle.std.proofs.Common.{◌∙◌, sym, arith, IsFalse}
use Rattle.std.proofs.lemmas.Bool.{not-true}
use Rattle.bound_tree.specs.Accepts.{Extends}
use Rattle.bound_tree.specs.Cut.{is_cut}
use Rattle.bound_tree.proofs.Tangents.{reference_extends}
use Rattle.path_node.proofs.Fronts.{open_by_front}
use Rattle.path_node.proofs.node.is_shown_open.Goals as goal

pub bound_by-shown-requires-clause-path : goal.bound_by-shown-requires-clause-path
bound_by-shown-requires-clause-path c = (reference_extends c.args.sc.now c.args.prefix.now c.recall_sound.ensures c.requires.legal c.args.reference.now c.requires.reference).path

pub bound_by-shown-requires-clause-begins : goal.bound_by-shown-requires-clause-begins
bound_by-shown-requires-clause-begins c = (reference_extends c.args.sc.now c.args.prefix.now c.recall_sound.ensures c.requires.legal c.args.reference.now c.requires.reference).front

-- the tangent bound of the longer prefix isn't cut, so this one isn't
pub returns-clause-open : goal.returns-clause-open
returns-clause-open c seen rate is =
    let p = c.args.sc.now in
    let q = c.args.prefix.now in
    let sound = c.recall_sound.ensures in
    let path : Extends p q c.args.reference.now = reference_extends p q sound c.requires.legal c.args.reference.now c.requires.reference in
    let free : IsFalse (is_cut c.bound_by-shown.result q c.args.finer.now) = sym c.cuts.ensures ∙ not-true c.cuts.result seen in
    open_by_front p q c.args.reference.now c.args.j path (omega (arith, c.if-j-len.false, c.len.ensures.value)) (omega (arith, c.requires.front))
    rate c.bound_by-shown.result c.args.finer.now sound (c.bound_by-shown.ensures.value rate is) free

pub bound_by-shown-requires-clause-onward : goal.bound_by-shown-requires-clause-onward
bound_by-shown-requires-clause-onward c = c.onward.ensures c.args.sc.now c.args.prefix.now c.requires.mean c.requires.there
