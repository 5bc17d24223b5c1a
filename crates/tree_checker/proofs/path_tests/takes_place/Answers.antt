use Rattle.std.proofs.Common.{ℕ, ◌≡◌, ◌≢◌, ◌↔◌, ◌-◌, List, length, slice_index, true, subst}
use Rattle.search_model.specs.Problem.{Problem}
use Rattle.search_model.specs.Legal.{IsLegal}
use Rattle.tree_checker.proofs.Paths.{takes_place_is}
use Rattle.tree_checker.proofs.path_tests.takes_place.Goals as goal

pub returns-then-u-cells-clause-value : goal.returns-then-u-cells-clause-value
returns-then-u-cells-clause-value c =
    let p : Problem = c.args.sc.now in
    let q : List ℕ = c.args.prefix.now in
    let other : c.args.u ≢ slice_index q (length q - 2) = rw (c.cells.ensures.value, c.len.ensures.value) at c.if-u-cells.true in
    takes_place_is p q c.args.u c.is_legal.result other (subst (λ (r : List ℕ). (c.is_legal.result ≡ true) ↔ IsLegal p r) c.requires.other c.is_legal.ensures)
