-- The cells of a grid of rows and columns: their names, and the drift to side neighbours.
use Rattle.std.specs.Prelude.{ℕ, ◌-◌, ◌*◌, ◌/◌, ◌%◌, ◌==◌, nat_lt, if◌then◌else◌, List, ◌∷◌, ◌++◌, map, length, filter}
use Rattle.std.specs.List.{range_with_len}
use Rattle.std.specs.Fmt.{decimal}
use Rattle.period_rows.specs.declared.part.CellPart.{CellPart}
use Rattle.search_grid.specs.Moves.{moves_from}

-- `r`, the row number, `c`, the column number
abbrev pub grid_name : ℕ → ℕ → List ℕ
grid_name cols c = 114 ∷ (decimal (c / cols) ++ 99 ∷ decimal (c % cols))

-- the names of a grid's cells, row by row
abbrev pub grid_names : ℕ → ℕ → List (List ℕ)
grid_names rows cols = map (grid_name cols) (range_with_len 0 (rows * cols))

-- what stays in a cell of so many moves, one of them to itself, where each of the others takes the part
abbrev pub rest_of : ℕ → ℕ → ℕ → ℕ
rest_of denominator part moves = denominator - part * (moves - 1)

-- the drift row of a cell with these moves: the part to each side neighbour, the rest to itself; no part of 0 stands in it
unfoldable pub spread_row : ℕ → ℕ → ℕ → List ℕ → List CellPart
spread_row denominator part c moves =
    filter (λ e. nat_lt 0 e.part) (map (λ m. record { cell = m; part = if m == c then rest_of denominator part (length moves) else part }) moves)

-- the drift rows of all cells
abbrev pub spread_rows : ℕ → ℕ → List (List ℕ) → List (List CellPart)
spread_rows denominator part moves = map (λ c. spread_row denominator part c (moves_from moves c)) (range_with_len 0 (length moves))
