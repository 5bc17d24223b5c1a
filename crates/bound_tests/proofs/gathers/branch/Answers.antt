use Rattle.std.proofs.Common.{subst, sym}
use Rattle.std.proofs.lemmas.List.Elements.{All-contains}
use Rattle.bound_tree.specs.Close.{IsClosed, IsExact}
use Rattle.bound_tree.specs.declared.node.Kind.TheVariants.{Branch}
use Rattle.search_core.proofs.FromBounds.{empty_branches}
use Rattle.search_core.proofs.Answered.{Contains-place}
use Rattle.bound_tests.proofs.gathers.branch.Goals as goal

pub step-requires-clause-allowed : goal.step-requires-clause-allowed
step-requires-clause-allowed c = λ held s at.
    let p = c.args.sc.now in
    let standings = c.args.core.now.standings in
    subst (λ q. IsClosed p s q Branch) (sym c.empty.ensures)
    (empty_branches p s c.recall_sound.ensures (All-contains (IsExact p) standings s c.requires.exact (Contains-place standings 0 s at)))
