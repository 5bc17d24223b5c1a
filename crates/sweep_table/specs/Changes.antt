-- Changes of looks in single periods: when they are right, and which fault of theirs is named.
use Rattle.std.specs.Prelude.{ℕ, ◌⊎◌, List}
use Rattle.period_rows.specs.declared.part.CellPart.{CellPart}
use Rattle.period_rows.specs.declared.fault.RowFault.{RowFault}
use Rattle.period_rows.specs.declared.fault.RowFault.TheVariants as named
use Rattle.period_rows.specs.Rows.{HasDouble}
use Rattle.period_rows.specs.Changes.{RowChange}
use Rattle.period_rows.specs.Faults.{HasRowFault, IsRowRefusal}
use Rattle.sweep_table.specs.declared.changes.LookChange.{LookChange}
use Rattle.sweep_table.specs.declared.changes.LookChangeFault.{LookChangeFault}
use Rattle.sweep_table.specs.declared.changes.LookChangeFault.TheVariants.{PeriodOutOfRange, PositionOutOfRange, DoubleChange, BadRow, NoMemory}
use Rattle.sweep_table.specs.LookParts.{LookParts}
use Rattle.sweep_table.specs.Faults.{HasOut, HasOver}

-- a change as contracts see it
abbrev pub change_of : LookChange → RowChange
change_of change = record { period = change.period; owner = change.position; row = change.row.items }

-- a sweep with these changes in place of its own
abbrev pub with_changes : LookParts → List RowChange → LookParts
with_changes sweep changes = record sweep { changes = changes }

-- an entry isn't a cell, a cell has two entries, or a part exceeds the denominator
abbrev pub IsBadRow : ℕ → ℕ → List CellPart → Type 0
IsBadRow denominator cells row = HasOut cells row ⊎ (HasDouble row ⊎ HasOver denominator row)

-- a fault as one of rows by period, whose owners are positions
abbrev pub row_fault_of : LookChangeFault → RowFault
row_fault_of (PeriodOutOfRange i) = named.PeriodOutOfRange i
row_fault_of (PositionOutOfRange i) = named.OwnerOutOfRange i
row_fault_of (DoubleChange i) = named.DoubleChange i
row_fault_of (BadRow i) = named.BadRow i
row_fault_of NoMemory = named.NoMemory

-- changes of looks over so many cells from so many positions have this fault; no fault of theirs is that memory ran out
abbrev pub HasChangeFault : ℕ → ℕ → ℕ → List RowChange → LookChangeFault → Type 0
HasChangeFault denominator cells positions changes fault = HasRowFault (IsBadRow denominator cells) 32 positions changes (row_fault_of fault)

-- what is answered where no changes are made: that memory ran out, or the fault that is named
abbrev pub IsRefusal : ℕ → ℕ → ℕ → List RowChange → LookChangeFault → Type 0
IsRefusal denominator cells positions changes fault = IsRowRefusal (IsBadRow denominator cells) 32 positions changes (row_fault_of fault)
