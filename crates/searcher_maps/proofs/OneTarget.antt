-- Problems with one target, and when they are the same search.
use Rattle.std.proofs.Common.{ℕ, ◌<◌, ◌≤◌, ◌≡◌, sym, ◌∙◌, subst, arith}
use Rattle.std.specs.Prelude.{max}
use Rattle.sweep_table.specs.LookParts.{factor_of}
use Rattle.search_model.specs.Problem.{Problem}
use Rattle.search_model.specs.Same.{AreSame}
use Rattle.searcher_maps.specs.Target.{HasSameTarget}

-- the same positions with the same names, the same start and moves, and the same look factors in each period
pub record HaveSameSearcher (q r : Problem) : Type 0 where
  pub position_names : q.position_names ≡ r.position_names
  pub positions : q.positions ≡ r.positions
  pub start : q.start ≡ r.start
  pub moves : q.moves ≡ r.moves
  pub look_denominator : q.sweep.denominator ≡ r.sweep.denominator
  pub factors : (t a c : ℕ) → 1 ≤ t → t ≤ q.horizon → a < q.positions → c < q.cells → factor_of q.sweep t a c ≡ factor_of r.sweep t a c

-- with the target of p and the same searcher two problems are the same search
pub same_by_target : (p q r : Problem) → HasSameTarget p q → HasSameTarget p r → HaveSameSearcher q r → AreSame q r
same_by_target p q r one two searcher = record {
  names = one.names ∙ sym two.names;
  position_names = searcher.position_names;
  cells = one.cells ∙ sym two.cells;
  positions = searcher.positions;
  horizon = one.horizon ∙ sym two.horizon;
  start = searcher.start;
  total = one.total ∙ sym two.total;
  first = one.first ∙ sym two.first;
  moves = searcher.moves;
  drift_denominator = one.drift_denominator ∙ sym two.drift_denominator;
  rows = λ t c from to cell.
      let before : t < max 2 p.horizon = subst (λ n. t < max 2 n) one.horizon to in
      let here : c < p.cells = omega (arith, cell, one.cells) in
      one.rows t c from before here ∙ sym (two.rows t c from before here);
  look_denominator = searcher.look_denominator;
  factors = searcher.factors;
}

-- the same search as a problem with the target of p has the target of p
pub target_same : (p q r : Problem) → HasSameTarget p q → AreSame q r → HasSameTarget p r
target_same p q r target same = record {
  names = sym same.names ∙ target.names;
  cells = sym same.cells ∙ target.cells;
  horizon = sym same.horizon ∙ target.horizon;
  total = sym same.total ∙ target.total;
  first = sym same.first ∙ target.first;
  drift_denominator = sym same.drift_denominator ∙ target.drift_denominator;
  rows = λ t c from to cell.
      let before : t < max 2 q.horizon = subst (λ n. t < max 2 n) (sym target.horizon) to in
      sym (same.rows t c from before (omega (arith, cell, target.cells))) ∙ target.rows t c from to cell;
}
