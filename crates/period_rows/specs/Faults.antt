-- What is wrong with changes of rows, and which fault of theirs is named.
use Rattle.std.specs.Prelude.{ℕ, ◌≡◌, ◌<◌, ◌≤◌, ◌⊎◌, List, length, Contains}
use Rattle.period_rows.specs.declared.part.CellPart.{CellPart}
use Rattle.period_rows.specs.declared.fault.RowFault.{RowFault}
use Rattle.period_rows.specs.declared.fault.RowFault.TheVariants.{PeriodOutOfRange, OwnerOutOfRange, DoubleChange, BadRow, NoMemory}
use Rattle.period_rows.specs.Changes.{RowChange, key_of, change_at, IsSameKey}

-- a period isn't from 1 to the last one
abbrev pub IsNoPeriod : ℕ → ℕ → Type 0
IsNoPeriod last t = (t ≡ 0) ⊎ (last < t)

-- an earlier change is for the same period and owner
abbrev pub HasEarlier : List RowChange → ℕ → Type 0
HasEarlier changes i = (k : ℕ) × (k < i) × IsSameKey (change_at changes k) (change_at changes i)

-- changes have this fault, where some rows are wrong; that memory ran out is no fault of theirs
abbrev pub HasRowFault : (List CellPart → Type 0) → ℕ → ℕ → List RowChange → RowFault → Type 0
HasRowFault Wrong last owners changes (PeriodOutOfRange i) = (i < length changes) × IsNoPeriod last (change_at changes i).period
HasRowFault Wrong last owners changes (OwnerOutOfRange i) = (i < length changes) × (owners ≤ (change_at changes i).owner)
HasRowFault Wrong last owners changes (DoubleChange i) = (i < length changes) × HasEarlier changes i
HasRowFault Wrong last owners changes (BadRow i) = (i < length changes) × Wrong (change_at changes i).row
HasRowFault Wrong last owners changes NoMemory = ⊥

-- the place of a fault's change, and the fault's number
abbrev pub change_rank : RowFault → ℕ × ℕ
change_rank (PeriodOutOfRange i) = (i, 1)
change_rank (OwnerOutOfRange i) = (i, 2)
change_rank (DoubleChange i) = (i, 3)
change_rank (BadRow i) = (i, 4)
change_rank NoMemory = (0, 5)

-- a place with a number goes before another with its number, or is it
abbrev pub IsNotAfter : ℕ × ℕ → ℕ × ℕ → Type 0
IsNotAfter one other = (one.0 < other.0) ⊎ ((one.0 ≡ other.0) × (one.1 ≤ other.1))

-- the fault that is named: the changes have it, and none that goes before it
pub record IsFirstRowFault (Wrong : List CellPart → Type 0) (last owners : ℕ) (changes : List RowChange) (fault : RowFault) : Type 0 where
  pub there : HasRowFault Wrong last owners changes fault
  pub first : (other : RowFault) → HasRowFault Wrong last owners changes other → IsNotAfter (change_rank fault) (change_rank other)

-- why changes aren't taken: no memory was found, or the fault that is named
abbrev pub IsRowRefusal : (List CellPart → Type 0) → ℕ → ℕ → List RowChange → RowFault → Type 0
IsRowRefusal Wrong last owners changes fault = (fault ≡ NoMemory) ⊎ IsFirstRowFault Wrong last owners changes fault

-- a change whose key doesn't stand among those before it is right
pub record IsRightChange (Right : List CellPart → Type 0) (last owners : ℕ) (keys : List (ℕ × ℕ)) (change : RowChange) : Type 0 where
  pub period : (1 ≤ change.period) × (change.period ≤ last)
  pub owner : change.owner < owners
  pub alone : ¬ Contains keys (key_of change)
  pub row : Right change.row

-- the fault that is named of the change at place i, behind those with these keys
abbrev pub IsFirstOfChange : (List CellPart → Type 0) → ℕ → ℕ → List (ℕ × ℕ) → ℕ → RowChange → RowFault → Type 0
IsFirstOfChange Wrong last owners keys i change (PeriodOutOfRange j) = (j ≡ i) × IsNoPeriod last change.period
IsFirstOfChange Wrong last owners keys i change (OwnerOutOfRange j) = (j ≡ i) × ((1 ≤ change.period) × (change.period ≤ last)) × (owners ≤ change.owner)
IsFirstOfChange Wrong last owners keys i change (DoubleChange j) = (j ≡ i) × ((1 ≤ change.period) × (change.period ≤ last)) × (change.owner < owners) × Contains keys (key_of change)
IsFirstOfChange Wrong last owners keys i change (BadRow j) = (j ≡ i) × ((1 ≤ change.period) × (change.period ≤ last)) × (change.owner < owners) × (¬ Contains keys (key_of change)) × Wrong change.row
IsFirstOfChange Wrong last owners keys i change NoMemory = ⊥
