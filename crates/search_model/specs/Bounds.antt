-- Bounds on what the paths below a prefix find: the mean bound (Martins 1993), and the tangent bound, which is this
-- project's own.
use Rattle.std.specs.Prelude.{ℕ, ◌+◌, ◌*◌, ◌-◌, ◌^◌, ◌<◌, ◌≤◌, ◌≡◌, ◌⊎◌, List, [], ◌∷◌, map, max, filter, length, nat_lt, slice_index, sum_by, drop}
use Rattle.sweep_table.specs.LookParts.{factor_of}
use Rattle.search_model.specs.Problem.{Problem}
use Rattle.search_model.specs.Legal.{continuations}
use Rattle.search_model.specs.Tracks.{tracks, weight_of, miss_of, value_of}

-- the product of the look factors of a prefix along a track, from period t on
unfoldable pub factors_along : Problem → ℕ → List ℕ → List ℕ → ℕ
factors_along p t [] x = 1
factors_along p t (a ∷ q) [] = 1
factors_along p t (a ∷ q) (c ∷ x) = factor_of p.sweep t a c * factors_along p (t + 1) q x

-- the cell of a track in period t
abbrev pub cell_in : List ℕ → ℕ → ℕ
cell_in x t = slice_index x (t - 1)

-- the reward of a look from position a in period t, after the looks of a prefix and no others
unfoldable pub reward_of : Problem → List ℕ → ℕ → ℕ → ℕ
reward_of p q t a = sum_by (λ x. weight_of p x * factors_along p 1 q x * (p.sweep.denominator - factor_of p.sweep t a (cell_in x t)) * p.sweep.denominator ^ (p.horizon - length q - 1)) (tracks p.cells p.horizon)

-- the sum of a continuation's rewards, its first position being that of period t
unfoldable pub sum_along : (ℕ → ℕ → ℕ) → ℕ → List ℕ → ℕ
sum_along r t [] = 0
sum_along r t (a ∷ y) = r t a + sum_along r (t + 1) y

-- the greatest of some numbers, or 0
unfoldable pub greatest : List ℕ → ℕ
greatest [] = 0
greatest (n ∷ ns) = max n (greatest ns)

-- the mean bound: the value of the prefix, and the greatest sum of rewards over its continuations
abbrev pub mean_of : Problem → List ℕ → ℕ
mean_of p q = value_of p q + greatest (map (sum_along (reward_of p q) (length q + 1)) (continuations p q))

-- every look factor is the rate or the denominator, and the rate is the least of them
pub record IsRate (p : Problem) (rate : ℕ) : Type 0 where
  pub either : (t a c : ℕ) → 1 ≤ t → t ≤ p.horizon → a < p.positions → c < p.cells → (factor_of p.sweep t a c ≡ rate) ⊎ (factor_of p.sweep t a c ≡ p.sweep.denominator)
  pub least : (t a c : ℕ) → 1 ≤ t → t ≤ p.horizon → a < p.positions → c < p.cells → rate ≤ factor_of p.sweep t a c
  pub reached : (t : ℕ) × (a : ℕ) × (c : ℕ) × (1 ≤ t) × (t ≤ p.horizon) × (a < p.positions) × (c < p.cells) × (factor_of p.sweep t a c ≡ rate)

-- what one more look from position a in period t finds of what path X misses, at one rate
unfoldable pub gain_of : Problem → ℕ → List ℕ → ℕ → ℕ → ℕ
gain_of p rate whole t a = (p.sweep.denominator - rate) * sum_by (λ x. weight_of p x * miss_of p whole x) (filter (λ x. nat_lt (factor_of p.sweep t a (cell_in x t)) p.sweep.denominator) (tracks p.cells p.horizon))

-- the tangent bound of a prefix at path X, which extends it: a bound of the denominator times the value
abbrev pub tangent_of : Problem → ℕ → List ℕ → List ℕ → ℕ
tangent_of p rate q whole =
    p.sweep.denominator * value_of p whole + greatest (map (sum_along (gain_of p rate whole) (length q + 1)) (continuations p q))
    - sum_along (gain_of p rate whole) (length q + 1) (drop (length q) whole)
