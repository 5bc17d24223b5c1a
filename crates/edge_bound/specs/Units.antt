-- What contracts see of the table of what looks find of units, and when it is right.
use Rattle.std.specs.Prelude.{ℕ, ◌≡◌, ◌+◌, ◌-◌, ◌*◌, ◌<◌, ◌≤◌, List, length, slice_index}
use Rattle.drift_chain.specs.DriftRows.{row_of}
use Rattle.sweep_table.specs.LookParts.{look_row}
use Rattle.search_model.specs.Problem.{Problem}
use Rattle.edge_bound.specs.Found.{one_of}

-- the number of positions, how far the numbers of a period are from those of the period before, and the numbers
pub record UnitTable : Type 0 where
  pub positions : ℕ
  pub step : ℕ
  pub units : List ℕ

-- where the number of a period, a cell and a position stands
abbrev pub place_of : UnitTable → ℕ → ℕ → ℕ → ℕ
place_of u t c b = (t - 2) * u.step + c * u.positions + b

abbrev pub unit_at : UnitTable → ℕ → ℕ → ℕ → ℕ
unit_at u t c b = slice_index u.units (place_of u t c b)

-- for each period from the second on, cell and position: what a look from the position finds of a unit that was in the
-- cell a period before
pub record HasUnits (p : Problem) (u : UnitTable) : Type 0 where
  pub inside : (t c b : ℕ) → 2 ≤ t → t ≤ p.horizon → c < p.cells → b < p.positions → place_of u t c b < length u.units
  pub each : (t c b : ℕ) → 2 ≤ t → t ≤ p.horizon → c < p.cells → b < p.positions → unit_at u t c b ≡ one_of p t c b

-- from a place on stand the numbers of a period, a row of positions for each cell
abbrev pub HasBlock : Problem → ℕ → List ℕ → ℕ → Type 0
HasBlock p t units place =
    (c b : ℕ) → c < p.cells → b < p.positions → slice_index units (place + (c * p.positions + b)) ≡ one_of p t c b

-- the numbers of so many periods from the second on stand one after the other
pub record HasBlocks (p : Problem) (n : ℕ) (units : List ℕ) : Type 0 where
  pub size : length units ≡ n * (p.cells * p.positions)
  pub each : (m : ℕ) → m < n → HasBlock p (m + 2) units (m * (p.cells * p.positions))

-- no step of the drift differs from the first one, and no look after a step from the same look after the first step
pub record IsSteady (p : Problem) : Type 0 where
  pub steps : (t c : ℕ) → 2 ≤ t → t ≤ p.horizon → c < p.cells → row_of p.drift (t - 1) c ≡ row_of p.drift 1 c
  pub looks : (t b : ℕ) → 2 ≤ t → t ≤ p.horizon → b < p.positions → look_row p.sweep t b ≡ look_row p.sweep 2 b
