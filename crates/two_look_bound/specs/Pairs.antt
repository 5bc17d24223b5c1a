-- The rewards after two remembered looks, along walks, with the two positions before each look.
use Rattle.std.specs.Prelude.{ℕ, ◌≡◌, ◌+◌, ◌-◌, ◌*◌, ◌≤◌, List, [], ◌∷◌, map, length, slice_index, Contains}
use Rattle.search_grid.specs.Moves.{moves_from}
use Rattle.search_model.specs.Problem.{Problem}
use Rattle.search_model.specs.Legal.{walks, continuations, last_of}
use Rattle.search_model.specs.Tracks.{value_of}
use Rattle.search_model.specs.Bounds.{reward_of, greatest}
use Rattle.search_model.specs.Edge.{edge_reward_of}
use Rattle.search_model.specs.Memory.{reward_after}
use Rattle.longest_walk.specs.Near.{IsNear}

-- the reward of a look from position c in period t, after the looks of a prefix, looks from a and b in the two periods before, and
-- no others
abbrev pub two_reward_of : Problem → List ℕ → ℕ → ℕ → ℕ → ℕ → ℕ
two_reward_of p q t a b c = reward_after p q (b ∷ a ∷ []) t c

-- the sum of such rewards along a walk that goes on in period t, with looks from a and b before it
unfoldable pub sum_pairs : (ℕ → ℕ → ℕ → ℕ → ℕ) → ℕ → ℕ → ℕ → List ℕ → ℕ
sum_pairs r t a b [] = 0
sum_pairs r t a b (c ∷ y) = r t a b c + sum_pairs r (t + 1) b c y

-- what follows a first look from position a: the second one has no look but that one before it
abbrev pub second_sum : Problem → List ℕ → ℕ → List ℕ → ℕ
second_sum p q a [] = 0
second_sum p q a (b ∷ y) = edge_reward_of p q (length q + 1 + 1) a b + sum_pairs (two_reward_of p q) (length q + 1 + 1 + 1) a b y

-- the rewards along a continuation of a prefix
abbrev pub two_sum : Problem → List ℕ → List ℕ → ℕ
two_sum p q [] = 0
two_sum p q (a ∷ y) = reward_of p q (length q + 1) a + second_sum p q a y

-- the value of the prefix, and the greatest sum of such rewards over its continuations
abbrev pub two_look_of : Problem → List ℕ → ℕ
two_look_of p q = value_of p q + greatest (map (two_sum p q) (continuations p q))

-- the greatest sum over the walks of n cells from b, the first of them in period t, with looks from a and b before
abbrev pub greatest_pairs : List (List ℕ) → (ℕ → ℕ → ℕ → ℕ → ℕ) → ℕ → ℕ → ℕ → ℕ → ℕ
greatest_pairs rows r n t a b = greatest (map (sum_pairs r t a b) (walks rows n b))

-- the edge reward of a look from b in period s after one from a, and the greatest sum that follows it
abbrev pub edge_and_rest : Problem → List ℕ → ℕ → ℕ → ℕ → ℕ
edge_and_rest p q s a b = edge_reward_of p q s a b + greatest_pairs p.moves (two_reward_of p q) (p.horizon - s) (s + 1) a b

-- the reward of a look from c in the period after s, after looks from a and b, and the greatest sum that follows it
abbrev pub two_and_rest : Problem → List ℕ → ℕ → ℕ → ℕ → ℕ → ℕ
two_and_rest p q s a b c = two_reward_of p q (s + 1) a b c + greatest_pairs p.moves (two_reward_of p q) (p.horizon - (s + 1)) (s + 1 + 1) b c

-- the edge reward of a move from a to b, the first look in period s, and the greatest sum that follows it
abbrev pub pair_sum : Problem → List ℕ → ℕ → ℕ → ℕ → ℕ
pair_sum p q s a b = edge_and_rest p q (s + 1) a b

-- these sums for each position that the searcher can be on in period s, and each of its moves
abbrev pub HasPairs : Problem → List ℕ → ℕ → List ℕ → Type 0
HasPairs p q s pairs =
    (a b n : ℕ) → length q + n ≡ s → IsNear p.moves n (last_of p.start q) a → Contains (moves_from p.moves a) b → slice_index pairs (a * p.positions + b) ≡ pair_sum p q s a b

-- a period with two looks after the prefix just before it and in it, and one behind it
pub record IsMiddle (p : Problem) (q : List ℕ) (s : ℕ) : Type 0 where
  pub later : length q + 2 ≤ s
  pub last : s + 1 ≤ p.horizon
