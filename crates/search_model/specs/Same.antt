-- When two problems are the same search.
use Rattle.std.specs.Prelude.{ℕ, ◌≡◌, ◌<◌, ◌≤◌, max}
use Rattle.drift_chain.specs.DriftRows.{row_of}
use Rattle.sweep_table.specs.LookParts.{factor_of}
use Rattle.search_model.specs.Problem.{Problem}

-- the same numbers, names and lists; the same drift rows after each period but the last, and for a horizon of 1 after
-- period 1; and the same look factors in each period
pub record AreSame (p q : Problem) : Type 0 where
  pub names : p.names ≡ q.names
  pub position_names : p.position_names ≡ q.position_names
  pub cells : p.cells ≡ q.cells
  pub positions : p.positions ≡ q.positions
  pub horizon : p.horizon ≡ q.horizon
  pub start : p.start ≡ q.start
  pub total : p.total ≡ q.total
  pub first : p.first ≡ q.first
  pub moves : p.moves ≡ q.moves
  pub drift_denominator : p.drift.denominator ≡ q.drift.denominator
  pub rows : (t c : ℕ) → 1 ≤ t → t < max 2 p.horizon → c < p.cells → row_of p.drift t c ≡ row_of q.drift t c
  pub look_denominator : p.sweep.denominator ≡ q.sweep.denominator
  pub factors : (t a c : ℕ) → 1 ≤ t → t ≤ p.horizon → a < p.positions → c < p.cells → factor_of p.sweep t a c ≡ factor_of q.sweep t a c
