-- What contracts see of a belief: its period, whether that is looked at, and the mass of each cell. The looks so far are a
-- variable of the contracts.
use Rattle.std.specs.Prelude.{ℕ, ◌≡◌, ◌-◌, ◌≤◌, Bool, List, [], ◌∷◌, ◌++◌, Option, None, is_some, if◌then◌else◌, length, get_or}
use Rattle.search_model.specs.Problem.{Problem}
use Rattle.belief_update.specs.Masses.{masses_of}

pub record BeliefState : Type 0 where
  pub period : ℕ
  pub looked : Bool
  pub masses : List ℕ

-- whether the last of some periods is looked at
abbrev pub is_looked : List (Option ℕ) → Bool
is_looked looks = is_some (get_or looks (length looks - 1) None)

-- the belief after these looks, one option for each period up to its own
pub record IsBelief (p : Problem) (looks : List (Option ℕ)) (b : BeliefState) : Type 0 where
  pub first : 1 ≤ b.period
  pub last : b.period ≤ p.horizon
  pub periods : length looks ≡ b.period
  pub looked : b.looked ≡ is_looked looks
  pub cells : length b.masses ≡ p.cells
  pub masses : b.masses ≡ masses_of p looks

-- the belief after some looks
abbrev pub IsReached : Problem → BeliefState → Type 0
IsReached p b = (looks : List (Option ℕ)) × IsBelief p looks b

-- the belief after some looks, and its period isn't looked at yet
abbrev pub IsUnlooked : Problem → BeliefState → Type 0
IsUnlooked p b = (looks : List (Option ℕ)) × IsBelief p (looks ++ None ∷ []) b

-- the looks up to the next period that isn't looked at: one period more, where a belief's own is looked at
abbrev pub awaiting : BeliefState → List (Option ℕ) → List (Option ℕ)
awaiting b looks = if b.looked then looks ++ None ∷ [] else looks
