-- What is wrong with overlook parts and with rows of looks, and which fault of theirs is named.
use Rattle.std.specs.Prelude.{ℕ, ◌+◌, ◌≡◌, ◌<◌, ◌≤◌, ◌⊎◌, List, length, slice_index, All, Any}
use Rattle.period_rows.specs.declared.part.CellPart.{CellPart}
use Rattle.period_rows.specs.Rows.{row_at, HasDouble, IsAscending}
use Rattle.period_rows.specs.Faults.{IsNotAfter}
use Rattle.sweep_table.specs.declared.faults.LookFault.{LookFault}
use Rattle.sweep_table.specs.declared.faults.LookFault.TheVariants.{Count, OutOfRange, DoubleEntry, PartOver, NoMemory}

-- no overlook part, or more than 200
abbrev pub HasWrongCount : List ℕ → Type 0
HasWrongCount overlook = (length overlook ≡ 0) ⊎ (200 < length overlook)

-- the count is right, and c is the least cell whose part exceeds the denominator
pub record IsFirstOver (denominator : ℕ) (overlook : List ℕ) (c : ℕ) : Type 0 where
  pub count : (1 ≤ length overlook) × (length overlook ≤ 200)
  pub cell : c < length overlook
  pub over : denominator < slice_index overlook c
  pub earlier : (k : ℕ) → k < c → slice_index overlook k ≤ denominator

-- no row or more than 200, or no cell or more than 200
abbrev pub HasWrongSizes : ℕ → List (List CellPart) → Type 0
HasWrongSizes cells rows = ((length rows ≡ 0) ⊎ (200 < length rows)) ⊎ ((cells ≡ 0) ⊎ (200 < cells))

-- an entry isn't a cell
abbrev pub HasOut : ℕ → List CellPart → Type 0
HasOut cells row = Any (λ entry. cells ≤ entry.cell) row

-- a part exceeds the denominator
abbrev pub HasOver : ℕ → List CellPart → Type 0
HasOver denominator row = Any (λ entry. denominator < entry.part) row

-- rows over so many cells have this fault; no fault of theirs is that memory ran out
abbrev pub HasFault : ℕ → ℕ → List (List CellPart) → LookFault → Type 0
HasFault denominator cells rows Count = HasWrongSizes cells rows
HasFault denominator cells rows (OutOfRange p) = (p < length rows) × HasOut cells (row_at rows p)
HasFault denominator cells rows (DoubleEntry p) = (p < length rows) × HasDouble (row_at rows p)
HasFault denominator cells rows (PartOver p) = (p < length rows) × HasOver denominator (row_at rows p)
HasFault denominator cells rows NoMemory = ⊥

-- where a fault stands, and its number: Count before all rows
abbrev pub rank_of : LookFault → ℕ × ℕ
rank_of Count = (0, 1)
rank_of (OutOfRange p) = (p + 1, 2)
rank_of (DoubleEntry p) = (p + 1, 3)
rank_of (PartOver p) = (p + 1, 4)
rank_of NoMemory = (0, 5)

-- the fault that is named: the rows have it, and none that goes before it
pub record IsFirstFault (denominator cells : ℕ) (rows : List (List CellPart)) (fault : LookFault) : Type 0 where
  pub there : HasFault denominator cells rows fault
  pub first : (other : LookFault) → HasFault denominator cells rows other → IsNotAfter (rank_of fault) (rank_of other)

-- the fault that is named of the row of position p
abbrev pub IsFirstOfRow : ℕ → ℕ → ℕ → List CellPart → LookFault → Type 0
IsFirstOfRow denominator cells p row Count = ⊥
IsFirstOfRow denominator cells p row (OutOfRange q) = (q ≡ p) × HasOut cells row
IsFirstOfRow denominator cells p row (DoubleEntry q) = (q ≡ p) × All (λ entry. entry.cell < cells) row × HasDouble row
IsFirstOfRow denominator cells p row (PartOver q) = (q ≡ p) × All (λ entry. entry.cell < cells) row × IsAscending row × HasOver denominator row
IsFirstOfRow denominator cells p row NoMemory = ⊥
