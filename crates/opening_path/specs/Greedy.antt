-- What a greedy searcher compares in a period, and what it keeps from one period to the next.
use Rattle.std.specs.Prelude.{ℕ, ◌<◌, ◌≤◌, ◌≡◌, ◌⊎◌, List, [], ◌∷◌, ◌++◌, Some, map, length, sum, All, Contains}
use Rattle.search_model.specs.Problem.{Problem}
use Rattle.search_model.specs.Legal.{Follows}
use Rattle.search_model.specs.Opening.{TakesLeastBest}
use Rattle.belief_update.specs.Masses.{masses_of}

-- what the looks of a prefix and a further look leave undetected, in the period of the further look
abbrev pub left_after : Problem → List ℕ → ℕ → ℕ
left_after p q a = sum (masses_of p (map Some q ++ Some a ∷ []))

-- after a prefix one move leaves less than another, or as much and isn't greater
abbrev pub LeavesLess : Problem → List ℕ → ℕ → ℕ → Type 0
LeavesLess p q a b = (left_after p q a < left_after p q b) ⊎ ((left_after p q b ≡ left_after p q a) × (a ≤ b))

-- the least of some moves that leave the least
pub record LeavesLeast (p : Problem) (q moves : List ℕ) (a : ℕ) : Type 0 where
  pub move : Contains moves a
  pub least : All (LeavesLess p q a) moves

-- a prefix of a greedy searcher
pub record IsOpened (p : Problem) (q : List ℕ) : Type 0 where
  pub follows : Follows p.moves p.start q
  pub steps : (k : ℕ) → k < length q → TakesLeastBest p q k
