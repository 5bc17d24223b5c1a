-- Which positions are within reach of another, and what contracts see of the lists of them.
use Rattle.std.specs.Prelude.{ℕ, zero, suc, ◌≡◌, ◌+◌, ◌<◌, ◌≤◌, ◌⊎◌, ◌↔◌, true, false, Bool, List, [], length, take, slice_index, slice_index_or, Contains}
use Rattle.search_grid.specs.Moves.{moves_from}
use Rattle.search_model.specs.Order.{Starts}

-- at most n moves lead from a to u
abbrev pub IsNear : List (List ℕ) → ℕ → ℕ → ℕ → Type 0
IsNear rows zero a u = a ≡ u
IsNear rows (suc n) a u = IsNear rows n a u ⊎ ((b : ℕ) × IsNear rows n a b × Contains (moves_from rows b) u)

-- the positions near one of them, the nearer ones first, and for each number of moves how many are within it
pub record NearRow : Type 0 where
  pub order : List ℕ
  pub counts : List ℕ

-- those within so many moves
abbrev pub near_of : NearRow → ℕ → List ℕ
near_of r n = take (slice_index r.counts n) r.order

-- for each number of moves up to n, the positions that are within it of a
pub record IsNearRow (rows : List (List ℕ)) (n a : ℕ) (r : NearRow) : Type 0 where
  pub size : length r.counts ≡ n + 1
  pub inside : (m : ℕ) → m ≤ n → slice_index r.counts m ≤ length r.order
  pub exact : (m u : ℕ) → m ≤ n → Contains (near_of r m) u ↔ IsNear rows m a u

-- the row of a position
abbrev pub row_at : List NearRow → ℕ → NearRow
row_at near a = slice_index_or near a (record { order = []; counts = [] })

-- a row for each position, for up to n moves
pub record AreNear (rows : List (List ℕ)) (n : ℕ) (near : List NearRow) : Type 0 where
  pub size : length near ≡ length rows
  pub each : (a : ℕ) → a < length rows → IsNearRow rows n a (row_at near a)

-- the marks say what is in a list
pub record AreMarks (order : List ℕ) (marks : List Bool) : Type 0 where
  pub marked : (u : ℕ) → u < length marks → Contains order u → slice_index_or marks u false ≡ true
  pub listed : (u : ℕ) → slice_index_or marks u false ≡ true → Contains order u

-- a list goes on with those of some positions that it lacks
pub record IsJoined (old more new : List ℕ) : Type 0 where
  pub starts : Starts old new
  pub has : (u : ℕ) → Contains new u ↔ (Contains old u ⊎ Contains more u)

-- a list goes on with the moves of its positions from a place on, up to another
pub record IsGrown (rows : List (List ℕ)) (from to : ℕ) (old new : List ℕ) : Type 0 where
  pub starts : Starts old new
  pub has : (j u : ℕ) → from ≤ j → j < to → Contains (moves_from rows (slice_index old j)) u → Contains new u
  pub only : (u : ℕ) → Contains new u → Contains old u ⊎ ((b : ℕ) × Contains old b × Contains (moves_from rows b) u)

-- the positions within n moves, of which those before a place have all their moves among them
pub record IsLevel (rows : List (List ℕ)) (n a from : ℕ) (r : NearRow) : Type 0 where
  pub near : IsNearRow rows n a r
  pub all : slice_index r.counts n ≡ length r.order
  pub closed : (j u : ℕ) → j < from → Contains (moves_from rows (slice_index r.order j)) u → Contains r.order u
  pub inside : from ≤ length r.order
