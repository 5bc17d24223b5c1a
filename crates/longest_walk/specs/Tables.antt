-- What contracts see of the tables, and when they are filled.
use Rattle.std.specs.Prelude.{ℕ, ◌≡◌, ◌+◌, ◌-◌, ◌*◌, ◌<◌, ◌≤◌, List, length}
use Rattle.search_grid.specs.Moves.{IsGrid}
use Rattle.longest_walk.specs.Sums.{entry_at}
use Rattle.longest_walk.specs.Near.{IsNear}
use Rattle.search_model.specs.Reference.{greatest_sum}

-- the sizes that the tables were made for, the position that they were last filled from, the greatest sum from there, and
-- for each period and position the greatest sum over the walks that are on that position in that period
pub record Tables : Type 0 where
  pub positions : ℕ
  pub horizon : ℕ
  pub from : ℕ
  pub best : ℕ
  pub sums : List ℕ

-- what all tables keep
pub record IsTables (w : Tables) : Type 0 where
  pub positions : (1 ≤ w.positions) × (w.positions ≤ 200)
  pub horizon : (1 ≤ w.horizon) × (w.horizon ≤ 32)
  pub from : w.from < w.positions
  pub size : length w.sums ≡ w.horizon * w.positions

-- the sums of the periods after k: the reward of the position, and the greatest sum over the walks from it
abbrev pub HasSums : List (List ℕ) → ℕ → ℕ → List ℕ → ℕ → List ℕ → Type 0
HasSums rows positions horizon rewards k sums =
    (t q : ℕ) → k < t → t ≤ horizon → q < positions →
    entry_at positions sums t q ≡ entry_at positions rewards t q + greatest_sum rows (entry_at positions rewards) (horizon - t) (t + 1) q

-- a table has these numbers in each period after k for the positions that are within reach of one then
abbrev pub HasNear : List (List ℕ) → ℕ → ℕ → (ℕ → ℕ → ℕ) → ℕ → ℕ → List ℕ → Type 0
HasNear rows positions horizon r from k numbers =
    (t q : ℕ) → k < t → t ≤ horizon → IsNear rows (t - k) from q → entry_at positions numbers t q ≡ r t q

-- the sums of the periods after k for the positions that are within reach of one then, by their rewards
abbrev pub HasSumsNear : List (List ℕ) → ℕ → ℕ → (ℕ → ℕ → ℕ) → ℕ → ℕ → List ℕ → Type 0
HasSumsNear rows positions horizon r from k sums =
    HasNear rows positions horizon (λ t q. r t q + greatest_sum rows r (horizon - t) (t + 1) q) from k sums

-- the tables are filled for these moves and rewards, from this position and for the periods after k
pub record IsFilled (w : Tables) (rows : List (List ℕ)) (rewards : List ℕ) (from k : ℕ) : Type 0 where
  pub grid : IsGrid rows
  pub positions : length rows ≡ w.positions
  pub start : w.from ≡ from
  pub best : w.best ≡ greatest_sum rows (entry_at w.positions rewards) (w.horizon - k) (k + 1) from
  pub sums : HasSums rows w.positions w.horizon rewards k w.sums

-- they are filled so for the positions that a walk from this one can be on
pub record IsFilledNear (w : Tables) (rows : List (List ℕ)) (r : ℕ → ℕ → ℕ) (from k : ℕ) : Type 0 where
  pub grid : IsGrid rows
  pub positions : length rows ≡ w.positions
  pub start : w.from ≡ from
  pub best : w.best ≡ greatest_sum rows r (w.horizon - k) (k + 1) from
  pub sums : HasSumsNear rows w.positions w.horizon r from k w.sums
