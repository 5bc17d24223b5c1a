-- No path below a prefix finds more than the bounds of the prefix.
use Rattle.std.specs.Prelude.{ℕ, ◌+◌, ◌-◌, ◌*◌, ◌^◌, ◌<◌, ◌≤◌, List, length}
use Rattle.search_model.specs.Problem.{Problem, IsProblem}
use Rattle.search_model.specs.Legal.{IsLegal}
use Rattle.search_model.specs.Tracks.{value_of}
use Rattle.search_model.specs.Bounds.{mean_of, IsRate, tangent_of}
use Rattle.search_model.specs.Order.{Starts}
use Rattle.bound_tree.specs.Accepts.{Extends}

-- no path finds more than the mean bound of a prefix that it extends (Martins 1993)
abbrev pub MeanIsAbove : Type 0
MeanIsAbove = (p : Problem) (q y : List ℕ) → IsProblem p → IsLegal p q → length q < p.horizon → Extends p q y → value_of p y ≤ mean_of p q

-- what a number of looks misses of a target, where n of them cover it and miss the rate each, and the others miss all,
-- the denominator g
abbrev pub missed_by : ℕ → ℕ → ℕ → ℕ → ℕ
missed_by g rate looks n = rate ^ n * g ^ (looks - n)

-- what looks miss is convex in the number of them that cover the target: with n of them it is no less than the tangent
-- at m says, which takes the gain of one more look at m off once for each look more than m, and adds it for each look
-- less; with nothing subtracted, and times g, so that the gain is (g - rate) times what m looks miss
abbrev pub LooksAreConvex : Type 0
LooksAreConvex = (g rate looks n m : ℕ) → rate ≤ g → n ≤ looks → m ≤ looks →
    g * missed_by g rate looks m + m * ((g - rate) * missed_by g rate looks m) ≤ g * missed_by g rate looks n + n * ((g - rate) * missed_by g rate looks m)

-- at one rate, the denominator times what a path finds is at most the tangent bound of a prefix that it extends, at any
-- path that extends the prefix
abbrev pub TangentIsAbove : Type 0
TangentIsAbove = (p : Problem) (rate : ℕ) (q x y : List ℕ) → IsProblem p → IsRate p rate → Extends p q x → Extends p q y → p.sweep.denominator * value_of p y ≤ tangent_of p rate q x

-- of two prefixes of a path, the tangent bound of the longer one at that path is no more than that of the shorter one
abbrev pub TangentGrows : Type 0
TangentGrows = (p : Problem) (rate : ℕ) (q r x : List ℕ) → IsProblem p → Starts q r → Extends p r x → tangent_of p rate r x ≤ tangent_of p rate q x
