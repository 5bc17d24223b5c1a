-- Greatest sums of rewards that agree, and of rewards below a bound.
use Rattle.std.specs.Prelude.{ℕ, ◌≡◌, ◌+◌, ◌≤◌, ◌<◌, ◌*◌, List, length}
use Rattle.search_grid.specs.Moves.{IsGrid}
use Rattle.longest_walk.specs.Sums.{highest_sum}
use Rattle.search_model.specs.Reference.{greatest_sum}

-- rewards that are the same in each period from t on and at each position have the same greatest sum
abbrev pub SameRewardsSameSum : Type 0
SameRewardsSameSum =
    (rows : List (List ℕ)) (r s : ℕ → ℕ → ℕ) (n t a : ℕ) → IsGrid rows → a < length rows →
    ((u q : ℕ) → t ≤ u → u < t + n → q < length rows → r u q ≡ s u q) →
    greatest_sum rows r n t a ≡ greatest_sum rows s n t a

-- no walk has more than the greatest rewards of its periods together
abbrev pub HighestAbove : Type 0
HighestAbove =
    (rows : List (List ℕ)) (r : ℕ → ℕ → ℕ) (n t a : ℕ) → IsGrid rows → a < length rows →
    greatest_sum rows r n t a ≤ highest_sum (length rows) r n t

-- where no reward is above a bound, the greatest rewards of n periods are together at most n times the bound
abbrev pub HighestBelow : Type 0
HighestBelow =
    (positions most : ℕ) (r : ℕ → ℕ → ℕ) (n t : ℕ) →
    ((u q : ℕ) → t ≤ u → u < t + n → q < positions → r u q ≤ most) →
    highest_sum positions r n t ≤ n * most
