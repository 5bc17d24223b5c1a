-- The greatest sum of rewards over the walks from a position, the least walk that reaches it, and the path at which a
-- prefix's tangent is taken.
use Rattle.std.specs.Prelude.{ℕ, ◌≡◌, ◌+◌, ◌-◌, List, ◌++◌, map, length, Contains, IsFalse}
use Rattle.search_model.specs.Problem.{Problem}
use Rattle.search_model.specs.Legal.{last_of, walks}
use Rattle.search_model.specs.Bounds.{sum_along, greatest, reward_of}
use Rattle.search_model.specs.Order.{smaller}

-- the greatest sum of rewards over the walks of n positions from a, the first of them in period t
abbrev pub greatest_sum : List (List ℕ) → (ℕ → ℕ → ℕ) → ℕ → ℕ → ℕ → ℕ
greatest_sum rows r n t a = greatest (map (sum_along r t) (walks rows n a))

-- a walk of the greatest sum, and of those the smallest
pub record IsLeastBest (rows : List (List ℕ)) (r : ℕ → ℕ → ℕ) (n t a : ℕ) (y : List ℕ) : Type 0 where
  pub walk : Contains (walks rows n a) y
  pub best : sum_along r t y ≡ greatest_sum rows r n t a
  pub least : (z : List ℕ) → Contains (walks rows n a) z → sum_along r t z ≡ greatest_sum rows r n t a → IsFalse (smaller z y)

-- the path at which a prefix's tangent is taken: the prefix, and then the least of the continuations with the greatest sum
-- of rewards; no standing has a part in it
abbrev pub IsReference : Problem → List ℕ → List ℕ → Type 0
IsReference p q whole =
    (y : List ℕ) × (whole ≡ q ++ y) × IsLeastBest p.moves (reward_of p q) (p.horizon - length q) (length q + 1) (last_of p.start q) y
