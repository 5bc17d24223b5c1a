-- Rows of cells with a part each, and the order of their entries.
use Rattle.std.specs.Prelude.{ℕ, ◌<◌, ◌==◌, List, [], map, count_by, slice_index_or, ◌&&◌, Bool}
use Rattle.std.specs.Cmp.Lexicographic.{pointwise}
use Rattle.std.specs.List.Sorted.{IsNonDecreasingBy, IsStrictlyIncreasing}
use Rattle.period_rows.specs.declared.part.CellPart.{CellPart}

-- the row of an owner, out of one for each
unfoldable pub row_at : List (List CellPart) → ℕ → List CellPart
row_at rows o = slice_index_or rows o []

-- some cell has more than one entry
abbrev pub HasDouble : List CellPart → Type 0
HasDouble row = (c : ℕ) × (1 < count_by (λ entry. entry.cell == c) row)

-- the cells stand in order, some of them perhaps twice
abbrev pub IsInOrder : List CellPart → Type 0
IsInOrder row = IsNonDecreasingBy (λ entry. entry.cell) row

-- the cells ascend, so that none stands twice
abbrev pub IsAscending : List CellPart → Type 0
IsAscending row = IsStrictlyIncreasing (map (λ entry. entry.cell) row)

-- the same entries in the same order
abbrev pub is_same_row : List CellPart → List CellPart → Bool
is_same_row xs ys = pointwise (λ x y. (x.cell == y.cell) && (x.part == y.part)) xs ys
