-- One row of the table.
use Rattle.std.specs.Prelude.{ℕ, ◌≡◌, ◌+◌, ◌≤◌, List, map, slice_index, Contains}
use Rattle.search_model.specs.Bounds.{greatest}

-- the sums of some positions, in the row that starts at a place
abbrev pub sums_at : List ℕ → ℕ → List ℕ → List ℕ
sums_at sums row moves = map (λ d. slice_index sums (row + d)) moves

-- one of the positions that have the greatest sum among them, and of those the least
pub record IsLeastMove (sums : List ℕ) (row : ℕ) (moves : List ℕ) (d : ℕ) : Type 0 where
  pub move : Contains moves d
  pub best : slice_index sums (row + d) ≡ greatest (sums_at sums row moves)
  pub least : (e : ℕ) → Contains moves e → slice_index sums (row + e) ≡ greatest (sums_at sums row moves) → d ≤ e
