-- The greatest sums of edge rewards, whose rewards stand on moves.
use Rattle.std.specs.Prelude.{ℕ, ◌≡◌, ◌+◌, ◌-◌, ◌*◌, ◌<◌, ◌≤◌, List, map, length, slice_index, slice_index_or}
use Rattle.sweep_table.specs.LookParts.{look_row, misses}
use Rattle.search_model.specs.Problem.{Problem, IsProblem}
use Rattle.search_model.specs.Legal.{IsLegal, walks, last_of, moves_after}
use Rattle.search_model.specs.Tracks.{value_of}
use Rattle.search_model.specs.Bounds.{reward_of, greatest}
use Rattle.search_model.specs.Edge.{edge_reward_of, sum_moves, edge_of}
use Rattle.longest_walk.specs.Near.{IsNear}
use Rattle.belief_update.specs.Masses.{mass_of, looks_to}
use Rattle.belief_update.specs.Found.{found_in}

-- the greatest sum of rewards on moves over the walks of n cells from a, the first of them in period t
abbrev pub greatest_moves : List (List ℕ) → (ℕ → ℕ → ℕ → ℕ) → ℕ → ℕ → ℕ → ℕ
greatest_moves rows r n t a = greatest (map (sum_moves r t a) (walks rows n a))

-- the edge reward of a look from b in period t after one from a, and the greatest sum that follows it
abbrev pub edge_and_later : Problem → List ℕ → ℕ → ℕ → ℕ → ℕ
edge_and_later p q t a b = edge_reward_of p q t a b + greatest_moves p.moves (edge_reward_of p q) (p.horizon - t) (t + 1) b

-- for each position that the searcher can be on in period t, n periods after the prefix, the reward of a look from there with
-- no look between it and the prefix, and the greatest sum of edge rewards over the walks that go on from there
abbrev pub HasGains : Problem → List ℕ → ℕ → List ℕ → Type 0
HasGains p q t gains =
    (b n : ℕ) → length q + n ≡ t → IsNear p.moves n (last_of p.start q) b → slice_index gains b ≡ reward_of p q t b + greatest_moves p.moves (edge_reward_of p q) (p.horizon - t) (t + 1) b

-- the edge bound of a prefix by way of a position: the value of the prefix, the reward of a look from there in the next
-- period, and the greatest sum of edge rewards over the walks that go on from there
abbrev pub through_of : Problem → List ℕ → ℕ → ℕ
through_of p q b = value_of p q + (reward_of p q (length q + 1) b + greatest_moves p.moves (edge_reward_of p q) (p.horizon - (length q + 1)) (length q + 2) b)

-- for each entry of the row of a look from position a in the period before t, what the look finds in its cell with no look
-- between it and the prefix, in some parts of what is to come
abbrev pub HasShares : Problem → List ℕ → ℕ → ℕ → ℕ → List ℕ → Type 0
HasShares p q t a parts shares =
    (i : ℕ) → i < length (look_row p.sweep (t - 1) a) → slice_index shares i ≡ found_in p (mass_of p (looks_to (t - 1) q)) (slice_index_or (look_row p.sweep (t - 1) a) i (misses 0 0)) * parts

-- a period after the prefix, the first one left out: its looks have another look just before them that isn't the prefix's
pub record IsLater (p : Problem) (q : List ℕ) (t : ℕ) : Type 0 where
  pub later : length q + 2 ≤ t
  pub last : t ≤ p.horizon

-- the edge bound of a prefix is the greatest by way of its moves
abbrev pub EdgeIsByMoves : Type 0
EdgeIsByMoves = (p : Problem) (q : List ℕ) → IsProblem p → IsLegal p q → length q < p.horizon → edge_of p q ≡ greatest (map (through_of p q) (moves_after p q))
