use Rattle.std.proofs.Common.{◌+◌, ◌∙◌, inl, inr, sym, ap, arith, IsFalse}
use Rattle.std.proofs.lemmas.Bool.{cases_lt}
use Rattle.search_model.specs.Edge.{edge_of}
use Rattle.search_model.proofs.Totals.{whole_weight-fits}
use Rattle.bound_tree.specs.Cut.{is_cut}
use Rattle.bound_tree.proofs.Tangents.{reference_extends}
use Rattle.path_node.proofs.Cutting.{cut-within, above-open}
use Rattle.mean_bound.specs.Means.{IsMadeFor as IsMeanFor, IsAlong}
use Rattle.path_node.specs.Room.{NodeTables}
use Rattle.path_node.proofs.node.close_by_edge.Goals as goal

pub overflow_add-enough : goal.overflow_add-enough
overflow_add-enough c = omega (arith, c.requires.exact.value, whole_weight-fits c.args.sc.now c.recall_sound.ensures)

pub bound_or_enough-edge-requires-clause-path : goal.bound_or_enough-edge-requires-clause-path
bound_or_enough-edge-requires-clause-path c = (reference_extends c.args.sc.now c.args.prefix.now c.recall_sound.ensures c.requires.legal c.args.reference.now c.requires.reference).path

pub returns-then-cuts-clause-closed : goal.returns-then-cuts-clause-closed
returns-then-cuts-clause-closed c =
    let cut = sym c.cuts.ensures ∙ c.if-cuts.true in
    let least = cut-within c.bound_or_enough-edge.result c.args.prefix.now c.args.standing.now cut in
    (c.requires.shorter, c.requires.open, c.bound_or_enough-edge.ensures.bound (omega (arith, least)), cut)

-- a number that shows the bound to be above the standing's value tells as much as the bound
pub close_past_edge-requires-clause-edge : goal.close_past_edge-requires-clause-edge
close_past_edge-requires-clause-edge c =
    let p = c.args.sc.now in
    let q = c.args.prefix.now in
    let s = c.args.standing.now in
    let edge = c.bound_or_enough-edge.result in
    let free : IsFalse (is_cut edge q s) = sym c.cuts.ensures ∙ c.if-cuts.false in
    elim (cases_lt edge (s.value + 1)) [
      | inl below ↦ sym (ap (λ n. is_cut n q s) (c.bound_or_enough-edge.ensures.bound below)) ∙ free
      | inr enough ↦ let above = c.bound_or_enough-edge.ensures.enough enough in above-open (edge_of p q) q s (omega (arith, above))
    ]

pub bound_or_enough-edge-requires-clause-onward : goal.bound_or_enough-edge-requires-clause-onward
bound_or_enough-edge-requires-clause-onward c =
    let p = c.args.sc.now in
    let made : IsMeanFor p c.scratch.inside.mean = rw (ap (λ (s : NodeTables). s.mean) c.scratch.view_is) c.requires.made.mean in
    let there : IsAlong c.args.prefix.now c.scratch.inside.mean = rw (ap (λ (s : NodeTables). s.mean) c.scratch.view_is) c.requires.there in
    c.onward-onward.ensures p c.args.prefix.now made there
