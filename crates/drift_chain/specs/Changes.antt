-- A drift's rows, and the changes of single periods that it may have.
use Rattle.std.specs.Prelude.{ℕ, Option, Some, None, List, []}
use Rattle.period_rows.specs.declared.part.CellPart.{CellPart}
use Rattle.period_rows.specs.Changes.{RowChange}
use Rattle.drift_chain.specs.DriftRows.{DriftRows}

-- the changes of a drift that may have some
abbrev pub changes_in : Option (List RowChange) → List RowChange
changes_in None = []
changes_in (Some changes) = changes

-- a drift as contracts see it
abbrev pub drift_by : ℕ → List (List CellPart) → Option (List RowChange) → DriftRows
drift_by denominator rows changes = record { denominator = denominator; rows = rows; changes = changes_in changes }
