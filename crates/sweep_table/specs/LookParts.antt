-- The searcher's looks: what contracts see of a sweep is, per position, the cells that a look covers with the part that it misses, and the
-- periods in which another row is in force.
use Rattle.std.specs.Prelude.{ℕ, ◌≡◌, ◌<◌, ◌≤◌, ◌==◌, ◌⊎◌, List, [], ◌∷◌, length, map, slice_index, slice_index_or, unwrap_or, option_map, All}
use Rattle.std.specs.List.{find, range_with_len}
use Rattle.period_rows.specs.declared.part.CellPart.{CellPart}
use Rattle.period_rows.specs.Rows.{IsAscending}
use Rattle.period_rows.specs.Changes.{RowChange, row_in_force}

-- the number of cells, a base row for each position, and the changes in the order in which they were given, whose owners are positions
pub record LookParts : Type 0 where
  pub denominator : ℕ
  pub cells : ℕ
  pub rows : List (List CellPart)
  pub changes : List RowChange

-- the number of positions to look from, and of the cells that are looked at
abbrev pub positions_of : LookParts → ℕ
positions_of sweep = length sweep.rows

abbrev pub cells_of : LookParts → ℕ
cells_of sweep = sweep.cells

-- the row in force for a look from position p in period t: that of the first change for it, or else the base row
unfoldable pub look_row : LookParts → ℕ → ℕ → List CellPart
look_row sweep t p = row_in_force sweep.changes (slice_index_or sweep.rows p []) t p

-- how much of a target in cell c a look over a row misses, out of the denominator g: the part of the cell's entry, or all where it has none
unfoldable pub factor_in : ℕ → List CellPart → ℕ → ℕ
factor_in g row c = unwrap_or (option_map (λ entry. entry.part) (find (λ entry. entry.cell == c) row)) g

-- how much of a target in cell c a look from position p in period t misses, out of the denominator
unfoldable pub factor_of : LookParts → ℕ → ℕ → ℕ → ℕ
factor_of sweep t p c = factor_in sweep.denominator (look_row sweep t p) c

-- a row's entries are cells in ascending order, and no part exceeds the denominator
pub record IsLookRow (denominator cells : ℕ) (row : List CellPart) : Type 0 where
  pub within : All (λ entry. entry.cell < cells) row
  pub ascending : IsAscending row
  pub parts : All (λ entry. entry.part ≤ denominator) row

-- a denominator up to 1,000,000, 1 to 200 positions and cells, and each row in force is right
pub record IsSweep (sweep : LookParts) : Type 0 where
  pub denominator : (1 ≤ sweep.denominator) × (sweep.denominator ≤ 1000000)
  pub positions : (1 ≤ positions_of sweep) × (positions_of sweep ≤ 200)
  pub cells : (1 ≤ cells_of sweep) × (cells_of sweep ≤ 200)
  pub each : (t p : ℕ) → IsLookRow sweep.denominator (cells_of sweep) (look_row sweep t p)

-- the entry of a cell
abbrev pub misses : ℕ → ℕ → CellPart
misses c part = record { cell = c; part = part }

-- a look from position p covers its own cell alone
abbrev pub own_row : List ℕ → ℕ → List CellPart
own_row overlook p = misses p (slice_index overlook p) ∷ []

-- the plain table of these overlook parts, in every period: as many cells as positions
abbrev pub parts_over : ℕ → List ℕ → LookParts
parts_over denominator overlook = record {
  denominator = denominator;
  cells = length overlook;
  rows = map (own_row overlook) (range_with_len 0 (length overlook));
  changes = [];
}

-- the table of these rows, in every period
abbrev pub looks_over : ℕ → ℕ → List (List CellPart) → LookParts
looks_over denominator cells rows = record { denominator = denominator; cells = cells; rows = rows; changes = [] }

-- the factors of periods 1 to the horizon are each the rate or the denominator, and the rate is the least of them
pub record IsOneRate (sweep : LookParts) (horizon rate : ℕ) : Type 0 where
  pub either : (t p c : ℕ) → 1 ≤ t → t ≤ horizon → p < positions_of sweep → c < cells_of sweep → (factor_of sweep t p c ≡ rate) ⊎ (factor_of sweep t p c ≡ sweep.denominator)
  pub least : (t p c : ℕ) → 1 ≤ t → t ≤ horizon → p < positions_of sweep → c < cells_of sweep → rate ≤ factor_of sweep t p c
  pub reached : (t : ℕ) × (p : ℕ) × (c : ℕ) × (1 ≤ t) × (t ≤ horizon) × (p < positions_of sweep) × (c < cells_of sweep) × (factor_of sweep t p c ≡ rate)
