-- The searcher's moves: what contracts see of a grid is, per position, the list of its moves.
use Rattle.std.specs.Prelude.{ℕ, ◌<◌, ◌≤◌, List, [], length, slice_index_or, All}
use Rattle.std.specs.List.Sorted.{IsStrictlyIncreasing}

-- the moves of a position
unfoldable pub moves_from : List (List ℕ) → ℕ → List ℕ
moves_from rows p = slice_index_or rows p []

-- the moves of a position, out of so many positions: one to 64, ascending, each a position
pub record IsMoveRow (positions : ℕ) (row : List ℕ) : Type 0 where
  pub some : 1 ≤ length row
  pub few : length row ≤ 64
  pub ascending : IsStrictlyIncreasing row
  pub within : All (λ q. q < positions) row

-- 1 to 200 positions, each with its moves
pub record IsGrid (rows : List (List ℕ)) : Type 0 where
  pub size : (1 ≤ length rows) × (length rows ≤ 200)
  pub each : (p : ℕ) → p < length rows → IsMoveRow (length rows) (moves_from rows p)
