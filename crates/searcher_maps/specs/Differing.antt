-- The changes that make a table out of the rows of period 1: one for each row of a later period that differs from them.
-- The owner of a row is a position for looks, and a cell for a drift.
use Rattle.std.specs.Prelude.{ℕ, ◌-◌, if◌then◌else◌, Bool, List, [], ◌∷◌}
use Rattle.std.specs.List.{flat_map, range_with_len}
use Rattle.period_rows.specs.declared.part.CellPart.{CellPart}
use Rattle.period_rows.specs.Changes.{RowChange}
use Rattle.period_rows.specs.Rows.{is_same_row}

-- the change of an owner in period t, if its row isn't that of period 1
abbrev pub differing_at : {R C : Type 0} → (R → R → Bool) → (ℕ → ℕ → R → C) → (ℕ → ℕ → R) → ℕ → ℕ → List C
differing_at same change row t a = if same (row t a) (row 1 a) then [] else change t a (row t a) ∷ []

-- those of so many owners
unfoldable pub differing_in : {R C : Type 0} → (R → R → Bool) → (ℕ → ℕ → R → C) → (ℕ → ℕ → R) → ℕ → ℕ → List C
differing_in same change row t owners = flat_map (differing_at same change row t) (range_with_len 0 owners)

-- and those of the periods from 2 to before the end
unfoldable pub differing : {R C : Type 0} → (R → R → Bool) → (ℕ → ℕ → R → C) → (ℕ → ℕ → R) → ℕ → ℕ → List C
differing same change row owners end = flat_map (λ t. differing_in same change row t owners) (range_with_len 2 (end - 2))

-- the change of an owner in period t
abbrev pub change_to : ℕ → ℕ → List CellPart → RowChange
change_to t a row = record { period = t; owner = a; row = row }

-- the change of one owner, those of one period, and all
abbrev pub changes_at : (ℕ → ℕ → List CellPart) → ℕ → ℕ → List RowChange
changes_at row t a = differing_at is_same_row change_to row t a

abbrev pub changes_in : (ℕ → ℕ → List CellPart) → ℕ → ℕ → List RowChange
changes_in row t owners = differing_in is_same_row change_to row t owners

abbrev pub later_changes : (ℕ → ℕ → List CellPart) → ℕ → ℕ → List RowChange
later_changes row owners end = differing is_same_row change_to row owners end
