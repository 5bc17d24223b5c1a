-- When two problems have the same target.
use Rattle.std.specs.Prelude.{ℕ, ◌≡◌, ◌<◌, ◌≤◌, max}
use Rattle.drift_chain.specs.DriftRows.{row_of}
use Rattle.search_model.specs.Problem.{Problem}

-- the same cells under the same names, the same first parts, and the same drift rows after each period but the last, and
-- for a horizon of 1 after period 1; the searcher may be another one
pub record HasSameTarget (p q : Problem) : Type 0 where
  pub names : q.names ≡ p.names
  pub cells : q.cells ≡ p.cells
  pub horizon : q.horizon ≡ p.horizon
  pub total : q.total ≡ p.total
  pub first : q.first ≡ p.first
  pub drift_denominator : q.drift.denominator ≡ p.drift.denominator
  pub rows : (t c : ℕ) → 1 ≤ t → t < max 2 p.horizon → c < p.cells → row_of q.drift t c ≡ row_of p.drift t c
