-- What is wrong with rows of parts, and which fault of theirs is named.
use Rattle.std.specs.Prelude.{ℕ, ◌≡◌, ◌≢◌, ◌<◌, ◌≤◌, List, length, sum_by, All, Any}
use Rattle.period_rows.specs.declared.part.CellPart.{CellPart}
use Rattle.period_rows.specs.Rows.{row_at, HasDouble, IsAscending}
use Rattle.period_rows.specs.Faults.{IsNotAfter}
use Rattle.drift_chain.specs.declared.faults.DriftFault.{DriftFault}
use Rattle.drift_chain.specs.declared.faults.DriftFault.TheVariants.{OutOfRange, ZeroPart, DoubleEntry, WrongSum, NoMemory}

-- rows have this fault; that memory ran out is no fault of theirs
abbrev pub HasFault : ℕ → List (List CellPart) → DriftFault → Type 0
HasFault denominator rows (OutOfRange c) = (c < length rows) × Any (λ entry. length rows ≤ entry.cell) (row_at rows c)
HasFault denominator rows (ZeroPart c) = (c < length rows) × Any (λ entry. entry.part ≡ 0) (row_at rows c)
HasFault denominator rows (DoubleEntry c) = (c < length rows) × HasDouble (row_at rows c)
HasFault denominator rows (WrongSum c) = (c < length rows) × (sum_by (λ entry. entry.part) (row_at rows c) ≢ denominator)
HasFault denominator rows NoMemory = ⊥

-- the row that a fault stands in, and the fault's number
abbrev pub rank_of : DriftFault → ℕ × ℕ
rank_of (OutOfRange c) = (c, 1)
rank_of (ZeroPart c) = (c, 2)
rank_of (DoubleEntry c) = (c, 3)
rank_of (WrongSum c) = (c, 4)
rank_of NoMemory = (0, 5)

-- the fault that is named: the rows have it, and none that goes before it
pub record IsFirstFault (denominator : ℕ) (rows : List (List CellPart)) (fault : DriftFault) : Type 0 where
  pub there : HasFault denominator rows fault
  pub first : (other : DriftFault) → HasFault denominator rows other → IsNotAfter (rank_of fault) (rank_of other)

-- the fault that is named of the row of cell c, out of so many cells
abbrev pub IsFirstOfRow : ℕ → ℕ → ℕ → List CellPart → DriftFault → Type 0
IsFirstOfRow denominator cells c row (OutOfRange b) = (b ≡ c) × Any (λ entry. cells ≤ entry.cell) row
IsFirstOfRow denominator cells c row (ZeroPart b) = (b ≡ c) × All (λ entry. entry.cell < cells) row × Any (λ entry. entry.part ≡ 0) row
IsFirstOfRow denominator cells c row (DoubleEntry b) = (b ≡ c) × All (λ entry. entry.cell < cells) row × All (λ entry. 1 ≤ entry.part) row × HasDouble row
IsFirstOfRow denominator cells c row (WrongSum b) =
    (b ≡ c) × All (λ entry. entry.cell < cells) row × All (λ entry. 1 ≤ entry.part) row × IsAscending row × (sum_by (λ entry. entry.part) row ≢ denominator)
IsFirstOfRow denominator cells c row NoMemory = ⊥
