-- The edge bound: the mean bound, with each look discounted by the look just before it.
use Rattle.std.specs.Prelude.{ℕ, ◌+◌, ◌*◌, ◌-◌, ◌^◌, List, [], ◌∷◌, map, length, sum_by}
use Rattle.sweep_table.specs.LookParts.{factor_of}
use Rattle.search_model.specs.Problem.{Problem}
use Rattle.search_model.specs.Legal.{continuations}
use Rattle.search_model.specs.Tracks.{tracks, weight_of, value_of}
use Rattle.search_model.specs.Bounds.{factors_along, cell_in, reward_of, greatest}

-- the reward of a look from position b in period t, after the looks of a prefix, a look from position a in the period
-- before, and no others
unfoldable pub edge_reward_of : Problem → List ℕ → ℕ → ℕ → ℕ → ℕ
edge_reward_of p q t a b = sum_by (λ x. weight_of p x * factors_along p 1 q x * factor_of p.sweep (t - 1) a (cell_in x (t - 1)) * (p.sweep.denominator - factor_of p.sweep t b (cell_in x t)) * p.sweep.denominator ^ (p.horizon - length q - 2)) (tracks p.cells p.horizon)

-- the sum of the rewards of a continuation's moves, which goes on from position a in period t
unfoldable pub sum_moves : (ℕ → ℕ → ℕ → ℕ) → ℕ → ℕ → List ℕ → ℕ
sum_moves r t a [] = 0
sum_moves r t a (b ∷ y) = r t a b + sum_moves r (t + 1) b y

-- the rewards along a continuation of a prefix: no look but those of the prefix discounts the first one
abbrev pub edge_sum : Problem → List ℕ → List ℕ → ℕ
edge_sum p q [] = 0
edge_sum p q (a ∷ y) = reward_of p q (length q + 1) a + sum_moves (edge_reward_of p q) (length q + 2) a y

-- the edge bound: the value of the prefix, and the greatest sum of such rewards over its continuations
abbrev pub edge_of : Problem → List ℕ → ℕ
edge_of p q = value_of p q + greatest (map (edge_sum p q) (continuations p q))
