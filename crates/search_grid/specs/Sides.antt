-- The grid of rows and columns in which the searcher stays or goes one cell up, down, left or right. Its cells are
-- counted row by row: cell c stands in row c / columns, in column c % columns.
use Rattle.std.specs.Prelude.{ℕ, ◌≡◌, ◌+◌, ◌*◌, ◌/◌, ◌%◌, Bool, ◌==◌, ◌&&◌, ◌||◌, not, nat_le, List, [], ◌∷◌, map}
use Rattle.std.specs.List.{filter, range_with_len}

-- whether two numbers differ by one at most
abbrev pub is_close : ℕ → ℕ → Bool
is_close a b = nat_le a (b + 1) && nat_le b (a + 1)

-- whether two cells are in one row and their columns differ by one at most, or the other way round
abbrev pub is_beside : ℕ → ℕ → ℕ → Bool
is_beside columns c d =
    (c / columns == d / columns && is_close (c % columns) (d % columns)) || (c % columns == d % columns && is_close (c / columns) (d / columns))

-- the moves of a cell: itself and the cells at its sides, ascending
abbrev pub moves_beside : ℕ → ℕ → ℕ → List ℕ
moves_beside rows columns c = filter (is_beside columns c) (range_with_len 0 (rows * columns))

-- its side neighbours: the moves without the stay
abbrev pub side_neighbours : ℕ → ℕ → ℕ → List ℕ
side_neighbours rows columns c = filter (λ d. not (d == c)) (moves_beside rows columns c)

-- the moves of each cell
unfoldable pub side_moves : ℕ → ℕ → List (List ℕ)
side_moves rows columns = map (moves_beside rows columns) (range_with_len 0 (rows * columns))

-- a row of two cells, and some cells of 3 rows of 3 and of 2 rows of 3
pub record WorkedSides : Type 0 where
  pub two_in_a_row : side_moves 1 2 ≡ (0 ∷ 1 ∷ []) ∷ (0 ∷ 1 ∷ []) ∷ []
  pub two_in_a_column : side_moves 2 1 ≡ (0 ∷ 1 ∷ []) ∷ (0 ∷ 1 ∷ []) ∷ []
  pub middle : moves_beside 3 3 4 ≡ 1 ∷ 3 ∷ 4 ∷ 5 ∷ 7 ∷ []
  pub neighbours : side_neighbours 3 3 4 ≡ 1 ∷ 3 ∷ 5 ∷ 7 ∷ []
  pub end_of_a_row : moves_beside 2 3 2 ≡ 1 ∷ 2 ∷ 5 ∷ []
  pub begin_of_a_row : moves_beside 2 3 3 ≡ 0 ∷ 3 ∷ 4 ∷ []
