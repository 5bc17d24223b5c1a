-- Rows of single periods, each for one owner.
use Rattle.std.specs.Prelude.{ℕ, ◌≡◌, ◌<◌, ◌≤◌, ◌==◌, ◌&&◌, Bool, List, [], slice_index_or, All}
use Rattle.std.specs.List.{AllPairs, find}
use Rattle.std.specs.List.Sorted.{IsPermutation}
use Rattle.std.specs.Option.{option_map_or}
use Rattle.period_rows.specs.declared.part.CellPart.{CellPart}
use Rattle.period_rows.specs.declared.changes.GivenChange.{GivenChange}

-- the row of an owner in one period
pub record RowChange : Type 0 where
  pub period : ℕ
  pub owner : ℕ
  pub row : List CellPart

-- a change as it is given
abbrev pub change_of : GivenChange → RowChange
change_of given = record { period = given.period; owner = given.owner; row = given.row.items }

-- a change's period and owner
abbrev pub key_of : RowChange → ℕ × ℕ
key_of change = (change.period, change.owner)

-- the change that stands at a place
unfoldable pub change_at : List RowChange → ℕ → RowChange
change_at changes i = slice_index_or changes i (record { period = 0; owner = 0; row = [] })

-- whether a change is for owner o in period t
abbrev pub is_for : ℕ → ℕ → RowChange → Bool
is_for t o change = (change.period == t) && (change.owner == o)

-- the row in force for owner o in period t: that of the first change for both, or else the base row
abbrev pub row_in_force : List RowChange → List CellPart → ℕ → ℕ → List CellPart
row_in_force changes base t o = option_map_or (λ change. change.row) (find (is_for t o) changes) base

-- the same change, with the entries of its row in any order
abbrev pub IsSameChange : RowChange → RowChange → Type 0
IsSameChange given made = (made.period ≡ given.period) × (made.owner ≡ given.owner) × IsPermutation given.row made.row

-- two changes are for the same period and owner
abbrev pub IsSameKey : RowChange → RowChange → Type 0
IsSameKey change later = (change.period ≡ later.period) × (change.owner ≡ later.owner)

-- changes are for the periods 1 to the last one and for owners, no two for the same period and owner
pub record AreChanges (last owners : ℕ) (changes : List RowChange) : Type 0 where
  pub within : All (λ change. (1 ≤ change.period) × (change.period ≤ last) × (change.owner < owners)) changes
  pub differ : AllPairs (λ change later. ¬ IsSameKey change later) changes

-- the row of each change is such a one
abbrev pub HaveRows : (List CellPart → Type 0) → List RowChange → Type 0
HaveRows P changes = All (λ change. P change.row) changes
