-- What holds of every made scenario.
use Rattle.std.specs.Prelude.{ℕ, ◌+◌, ◌^◌, ◌<◌, ◌≤◌, List, length, sum_by, All, AllPairs, IsTrue}
use Rattle.std.specs.List.{range_with_len, AllZip}
use Rattle.search_model.specs.Problem.{Problem, IsProblem}
use Rattle.search_model.specs.Legal.{IsLegal}
use Rattle.search_model.specs.Order.{smaller}
use Rattle.scenario_maker.specs.Made.{bounds, draws_of, made_problem}

-- there are as many draws as bounds, and each is below its bound
abbrev pub DrawsWithinBounds : Type 0
DrawsWithinBounds = (number : ℕ) → AllZip (λ drawn bound. drawn < bound) (draws_of number) bounds

-- every made scenario is within the limits, and its sums fit
abbrev pub MadeIsProblem : Type 0
MadeIsProblem = (number : ℕ) → IsProblem (made_problem number)

-- 1 + m + m ^ 2 + .. + m ^ n
abbrev pub powers_up_to : ℕ → ℕ → ℕ
powers_up_to m n = sum_by (λ k. m ^ k) (range_with_len 0 (n + 1))

-- legal prefixes in ascending order, so that no two are the same
pub record AreLegalPrefixes (p : Problem) (qs : List (List ℕ)) : Type 0 where
  pub ascending : AllPairs (λ q r. IsTrue (smaller q r)) qs
  pub legal : All (IsLegal p) qs

-- where no position has more than m moves, there are at most 1 + m + .. + m ^ T legal prefixes
abbrev pub FewPrefixes : Type 0
FewPrefixes = (p : Problem) (m : ℕ) → All (λ row. length row ≤ m) p.moves → (qs : List (List ℕ)) → AreLegalPrefixes p qs → length qs ≤ powers_up_to m p.horizon

-- a made scenario has at most 488,281 legal prefixes: 1 + 5 + 25 + .. + 5 ^ 8
abbrev pub FewMadePrefixes : Type 0
FewMadePrefixes = (number : ℕ) (qs : List (List ℕ)) → AreLegalPrefixes (made_problem number) qs → length qs ≤ 488281
