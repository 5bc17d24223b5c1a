-- What is wrong with changes of rows, and which fault of theirs is named.
use Rattle.std.specs.Prelude.{ℕ, ◌≡◌, ◌≢◌, ◌≤◌, ◌⊎◌, List, sum_by, Any}
use Rattle.period_rows.specs.declared.part.CellPart.{CellPart}
use Rattle.period_rows.specs.declared.fault.RowFault.{RowFault}
use Rattle.period_rows.specs.declared.fault.RowFault.TheVariants as named
use Rattle.period_rows.specs.Rows.{HasDouble}
use Rattle.period_rows.specs.Changes.{RowChange}
use Rattle.period_rows.specs.Faults.{HasRowFault, IsRowRefusal}
use Rattle.drift_chain.specs.declared.changes.DriftChange.{DriftChange}
use Rattle.drift_chain.specs.declared.changes.ChangeFault.{ChangeFault}
use Rattle.drift_chain.specs.declared.changes.ChangeFault.TheVariants.{PeriodOutOfRange, CellOutOfRange, DoubleChange, BadRow, NoMemory}

-- a change as it is given
abbrev pub row_change : DriftChange → RowChange
row_change given = record { period = given.period; owner = given.cell; row = given.row.items }

-- a row has an entry that isn't a cell, an entry with no part, two entries for a cell, or another sum
abbrev pub IsBadRow : ℕ → ℕ → List CellPart → Type 0
IsBadRow denominator cells row =
    Any (λ entry. cells ≤ entry.cell) row ⊎ (Any (λ entry. entry.part ≡ 0) row ⊎ (HasDouble row ⊎ (sum_by (λ entry. entry.part) row ≢ denominator)))

-- a fault as one of rows by period, whose owners are cells
abbrev pub row_fault_of : ChangeFault → RowFault
row_fault_of (PeriodOutOfRange i) = named.PeriodOutOfRange i
row_fault_of (CellOutOfRange i) = named.OwnerOutOfRange i
row_fault_of (DoubleChange i) = named.DoubleChange i
row_fault_of (BadRow i) = named.BadRow i
row_fault_of NoMemory = named.NoMemory

-- changes over a denominator and cells have this fault; that memory ran out is no fault of theirs
abbrev pub HasChangeFault : ℕ → ℕ → List RowChange → ChangeFault → Type 0
HasChangeFault denominator cells changes fault = HasRowFault (IsBadRow denominator cells) 31 cells changes (row_fault_of fault)

-- why changes aren't taken: no memory was found, or the first fault that they have
abbrev pub IsRefusal : ℕ → ℕ → List RowChange → ChangeFault → Type 0
IsRefusal denominator cells changes fault = IsRowRefusal (IsBadRow denominator cells) 31 cells changes (row_fault_of fault)
