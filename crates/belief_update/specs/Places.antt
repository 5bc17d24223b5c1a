-- Where a cell stands in a row of cells.
use Rattle.std.specs.Prelude.{ℕ, ◌<◌, ◌≤◌, List, length, slice_index_or}
use Rattle.period_rows.specs.declared.part.CellPart.{CellPart}
use Rattle.period_rows.specs.Rows.{IsAscending}

-- in a row in ascending order the entries before this place are of cells below c, and no others
pub record IsPlaceOf (c : ℕ) (row : List CellPart) (i : ℕ) : Type 0 where
  pub ascending : IsAscending row
  pub below : (k : ℕ) (e : CellPart) → k < i → (slice_index_or row k e).cell < c
  pub others : (k : ℕ) (e : CellPart) → i ≤ k → k < length row → c ≤ (slice_index_or row k e).cell
