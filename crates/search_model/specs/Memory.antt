-- Bounds that remember looks: the mean bound (Martins 1993) with each look discounted by so many looks just before it. The mean
-- bound remembers none, and the edge bound one.
use Rattle.std.specs.Prelude.{ℕ, ◌+◌, ◌*◌, ◌-◌, ◌^◌, List, [], ◌∷◌, map, length, take, sum_by}
use Rattle.sweep_table.specs.LookParts.{factor_of}
use Rattle.search_model.specs.Problem.{Problem}
use Rattle.search_model.specs.Legal.{continuations}
use Rattle.search_model.specs.Tracks.{tracks, weight_of, value_of}
use Rattle.search_model.specs.Bounds.{factors_along, cell_in, greatest}

-- the product of the factors along a track of the looks just before period t, the latest first
unfoldable pub factors_before : Problem → ℕ → List ℕ → List ℕ → ℕ
factors_before p t [] x = 1
factors_before p t (a ∷ recent) x = factor_of p.sweep (t - 1) a (cell_in x (t - 1)) * factors_before p (t - 1) recent x

-- the reward of a look from position b in period t, after the looks of a prefix and those just before it, and no others
unfoldable pub reward_after : Problem → List ℕ → List ℕ → ℕ → ℕ → ℕ
reward_after p q recent t b = sum_by (λ x. weight_of p x * factors_along p 1 q x * factors_before p t recent x * (p.sweep.denominator - factor_of p.sweep t b (cell_in x t)) * p.sweep.denominator ^ (p.horizon - length q - length recent - 1)) (tracks p.cells p.horizon)

-- the sum of the rewards along a continuation, from period t on, where each look remembers at most m of the looks behind the
-- prefix
unfoldable pub sum_remembering : Problem → ℕ → List ℕ → List ℕ → ℕ → List ℕ → ℕ
sum_remembering p m q recent t [] = 0
sum_remembering p m q recent t (b ∷ y) = reward_after p q (take m recent) t b + sum_remembering p m q (b ∷ recent) (t + 1) y

-- the bound that remembers m looks: the value of the prefix, and the greatest sum of such rewards over its continuations
abbrev pub remembering_of : Problem → ℕ → List ℕ → ℕ
remembering_of p m q = value_of p q + greatest (map (sum_remembering p m q [] (length q + 1)) (continuations p q))
