-- The target's drift: what contracts see of it is its denominator, per cell the parts of the next step, and the rows of
-- single periods that differ from these.
use Rattle.std.specs.Prelude.{ℕ, ◌≡◌, ◌<◌, ◌≤◌, ◌==◌, if◌then◌else◌, List, [], length, slice_index_or, sum_by, All}
use Rattle.period_rows.specs.declared.part.CellPart.{CellPart}
use Rattle.period_rows.specs.Rows.{IsAscending}
use Rattle.period_rows.specs.Changes.{RowChange, row_in_force, AreChanges}

pub record DriftRows : Type 0 where
  pub denominator : ℕ
  pub rows : List (List CellPart)
  pub changes : List RowChange

-- the drift that has these rows in every period, over one denominator
abbrev pub drift_over : ℕ → List (List CellPart) → DriftRows
drift_over denominator rows = record { denominator = denominator; rows = rows; changes = [] }

-- a drift with these changes
abbrev pub drift_with : DriftRows → List RowChange → DriftRows
drift_with drift changes = record { denominator = drift.denominator; rows = drift.rows; changes = changes }

-- the number of cells
abbrev pub drift_cells : DriftRows → ℕ
drift_cells drift = length drift.rows

-- the row of a cell for the step after period t: that of the first change for both, else the cell's own
unfoldable pub row_of : DriftRows → ℕ → ℕ → List CellPart
row_of drift t c = row_in_force drift.changes (slice_index_or drift.rows c []) t c

-- the part that a row gives to cell d
unfoldable pub part_in : List CellPart → ℕ → ℕ
part_in row d = sum_by (λ entry. if entry.cell == d then entry.part else 0) row

-- the part of the step from c to d after period t
abbrev pub part_of : DriftRows → ℕ → ℕ → ℕ → ℕ
part_of drift t c d = part_in (row_of drift t c) d

-- a row's entries are cells in ascending order, their parts are positive and sum to the denominator
pub record IsDriftRow (denominator cells : ℕ) (row : List CellPart) : Type 0 where
  pub within : All (λ entry. entry.cell < cells) row
  pub positive : All (λ entry. 1 ≤ entry.part) row
  pub ascending : IsAscending row
  pub total : sum_by (λ entry. entry.part) row ≡ denominator

-- a denominator up to 1,000,000 and 1 to 200 cells, each with its row for every period, and changes for the periods 1 to 31
pub record IsDrift (drift : DriftRows) : Type 0 where
  pub denominator : (1 ≤ drift.denominator) × (drift.denominator ≤ 1000000)
  pub size : (1 ≤ drift_cells drift) × (drift_cells drift ≤ 200)
  pub each : (t c : ℕ) → c < drift_cells drift → IsDriftRow drift.denominator (drift_cells drift) (row_of drift t c)
  pub changes : AreChanges 31 (drift_cells drift) drift.changes
