-- Laws over the definitions of tracks, walks, paths and bounds.
use Rattle.std.specs.Prelude.{ℕ, suc, ◌≡◌, ◌<◌, ◌≤◌, ◌+◌, ◌*◌, ◌^◌, ◌-◌, ◌↔◌, List, ◌++◌, map, length, drop, sum_by, Contains}
use Rattle.std.specs.List.{range_with_len}
use Rattle.search_grid.specs.Moves.{IsGrid}
use Rattle.search_model.specs.Problem.{Problem, IsProblem}
use Rattle.search_model.specs.Legal.{IsLegal, IsPath, Follows, walks, continuations}
use Rattle.search_model.specs.Tracks.{tracks, weight_of, missed_weight, whole_weight, value_of}
use Rattle.search_model.specs.Order.{Starts, IsBest}
use Rattle.search_model.specs.Bounds.{IsRate, reward_of, sum_along, greatest, gain_of, mean_of, tangent_of}
use Rattle.search_model.specs.Exchange.{missed_unit, reward_for, drifted, mass_behind}
use Rattle.search_model.specs.Reference.{IsLeastBest}
use Rattle.sweep_table.specs.LookParts.{factor_of, IsOneRate}

-- the weights of all tracks sum to the total times the drift's denominators
abbrev pub WeightsSum : Type 0
WeightsSum = (p : Problem) → IsProblem p → sum_by (weight_of p) (tracks p.cells p.horizon) ≡ p.total * p.drift.denominator ^ (p.horizon - 1)

-- no looks miss more than the whole weight, so no value is cut off at 0
abbrev pub NothingCutOff : Type 0
NothingCutOff = (p : Problem) (q : List ℕ) → IsProblem p → missed_weight p q ≤ whole_weight p

-- the walks from a are the lists of their length that follow the moves from a
abbrev pub WalksFollow : Type 0
WalksFollow = (rows : List (List ℕ)) (n a : ℕ) (y : List ℕ) → Contains (walks rows n a) y ↔ (Follows rows a y × (length y ≡ n))

-- there is a best path, and no second one
abbrev pub OneBest : Type 0
OneBest = (p : Problem) → IsProblem p → (q : List ℕ) × IsBest p q × ((r : List ℕ) → IsBest p r → r ≡ q)

-- a sweep has one rate up to the horizon exactly where that is the rate of the problem's look factors
abbrev pub OneRateIsRate : Type 0
OneRateIsRate = (p : Problem) (rate : ℕ) → IsProblem p → IsOneRate p.sweep p.horizon rate ↔ IsRate p rate

-- from each position there is one least walk of the greatest sum, and no second one
abbrev pub OneLeastBest : Type 0
OneLeastBest =
    (rows : List (List ℕ)) (r : ℕ → ℕ → ℕ) (n t a : ℕ) → IsGrid rows → a < length rows →
    (y : List ℕ) × IsLeastBest rows r n t a y × ((z : List ℕ) → IsLeastBest rows r n t a z → z ≡ y)

-- the continuations of a legal prefix are the lists that go on from it to a path
abbrev pub ContinuationsAre : Type 0
ContinuationsAre = (p : Problem) (q y : List ℕ) → IsLegal p q → Contains (continuations p q) y ↔ IsPath p (q ++ y)

-- the mean bound of a prefix with periods left is at most the whole weight, once for each period and once more
abbrev pub MeanSize : Type 0
MeanSize = (p : Problem) (q : List ℕ) → IsProblem p → length q < p.horizon → mean_of p q ≤ (p.horizon + 1) * whole_weight p

-- and a tangent bound at most so much times the look denominator
abbrev pub TangentSize : Type 0
TangentSize = (p : Problem) (rate : ℕ) (q whole : List ℕ) → IsProblem p → tangent_of p rate q whole ≤ (p.horizon + 1) * whole_weight p * p.sweep.denominator

-- the sum that a tangent bound takes off is at most what it takes it off, so no tangent bound is cut off at 0
abbrev pub NoTangentCutOff : Type 0
NoTangentCutOff =
    (p : Problem) (rate : ℕ) (q whole : List ℕ) → IsPath p whole → Starts q whole →
    sum_along (gain_of p rate whole) (length q + 1) (drop (length q) whole)
    ≤ p.sweep.denominator * value_of p whole + greatest (map (sum_along (gain_of p rate whole) (length q + 1)) (continuations p q))

-- all that masses in a period can lose, with m periods to come, is at most what looks miss of them and the sum of what each
-- look finds alone (Martins 1993)
abbrev pub MassesTogether : Type 0
MassesTogether =
    (p : Problem) → IsProblem p → (m s : ℕ) (masses : ℕ → ℕ) (y : List ℕ) → length y ≡ suc m → s + m ≡ p.horizon →
    sum_by masses (range_with_len 0 p.cells) * (p.drift.denominator ^ m * p.sweep.denominator ^ suc m)
    ≤ sum_by (λ c. masses c * missed_unit p s y m c) (range_with_len 0 p.cells) + sum_along (reward_for p s masses) s y

-- the rewards of the mean bound are those of the masses behind the prefix
abbrev pub MeanRewardsAre : Type 0
MeanRewardsAre = (p : Problem) (q : List ℕ) (t a : ℕ) → IsProblem p → length q < t → t ≤ p.horizon → reward_of p q t a ≡ reward_for p (length q + 1) (mass_behind p q) t a

-- what a prefix and some looks after it miss is what these looks miss of the masses behind the prefix
abbrev pub MissedBehind : Type 0
MissedBehind =
    (p : Problem) (q y : List ℕ) → length q < p.horizon →
    missed_weight p (q ++ y) ≡ sum_by (λ c. mass_behind p q c * missed_unit p (length q + 1) y (p.horizon - length q - 1) c) (range_with_len 0 p.cells)

-- the reward of a look is what it finds of the masses that drifted on to its period, times the parts of what is to come
abbrev pub RewardsByDrift : Type 0
RewardsByDrift =
    (p : Problem) (s : ℕ) (masses : ℕ → ℕ) (t a : ℕ) → s ≤ t →
    reward_for p s masses t a
    ≡ sum_by (λ d. drifted p s masses (t - s) d * (p.sweep.denominator - factor_of p.sweep t a d)) (range_with_len 0 p.cells)
    * p.drift.denominator ^ (p.horizon - t) * p.sweep.denominator ^ (p.horizon - s)
