-- Beliefs along a prefix.
use Rattle.std.specs.Prelude.{ℕ, ◌≡◌, ◌==◌, ◌+◌, ◌<◌, ◌≤◌, false, List, [], length, take, max, slice_index_or, All}
use Rattle.std.specs.List.{common_prefix_len}
use Rattle.search_model.specs.Problem.{Problem}
use Rattle.belief_update.specs.Masses.{looks_to}
use Rattle.belief_update.specs.Belief.{BeliefState, IsBelief}

-- the belief after the looks of a prefix and no others, in the period of the last of them or in a later one
pub record IsPast (p : Problem) (q : List ℕ) (b : BeliefState) : Type 0 where
  pub late : length q ≤ b.period
  pub belief : IsBelief p (looks_to b.period q) b

-- the belief after a prefix: in the period of its last look, or in period 1 where there is none
abbrev pub IsAfter : Problem → List ℕ → BeliefState → Type 0
IsAfter p q b = IsBelief p (looks_to (max 1 (length q)) q) b

-- the belief before the look that comes after a prefix, in the period of that look
abbrev pub IsAhead : Problem → List ℕ → BeliefState → Type 0
IsAhead p q b = IsBelief p (looks_to (length q + 1) q) b

abbrev pub IsAheadOfSome : Problem → BeliefState → Type 0
IsAheadOfSome p b = (q : List ℕ) × IsAhead p q b

-- what contracts see of a trail: its prefix, and after each number of its looks the belief after them and the one ahead
pub record TrailState : Type 0 where
  pub prefix : List ℕ
  pub rows : List BeliefState
  pub ahead : List BeliefState

-- the belief that is kept after so many looks
abbrev pub row_at : List BeliefState → ℕ → BeliefState
row_at rows k = slice_index_or rows k (record { period = 0; looked = false; masses = [] })

-- beliefs over all cells
abbrev pub HaveAllCells : Problem → List BeliefState → Type 0
HaveAllCells p rows = All (λ b. length b.masses ≡ p.cells) rows

-- one belief for each number of looks, and one ahead of each look; up to n looks they are those of a prefix
pub record AreRows (p : Problem) (q : List ℕ) (n : ℕ) (rows ahead : List BeliefState) : Type 0 where
  pub size : length rows ≡ p.horizon + 1
  pub ahead_size : length ahead ≡ p.horizon
  pub cells : HaveAllCells p rows
  pub ahead_cells : HaveAllCells p ahead
  pub after : (k : ℕ) → k ≤ n → IsAfter p (take k q) (row_at rows k)
  pub before : (k : ℕ) → k ≤ n → k < p.horizon → IsAhead p (take k q) (row_at ahead k)

-- the trail's beliefs are those of its prefix, in this scenario
pub record IsTrailOf (p : Problem) (t : TrailState) : Type 0 where
  pub short : length t.prefix ≤ p.horizon
  pub rows : AreRows p t.prefix (length t.prefix) t.rows t.ahead

-- how many positions two prefixes have in common, from the first on
abbrev pub common_of : List ℕ → List ℕ → ℕ
common_of q r = common_prefix_len (λ a b. a == b) q r
