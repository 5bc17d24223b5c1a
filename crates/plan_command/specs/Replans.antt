-- The best path among those that begin with a flown prefix, and the map of a flown prefix.
use Rattle.std.specs.Prelude.{ℕ, ◌≡◌, List}
use Rattle.search_model.specs.Problem.{Problem, IsProblem}
use Rattle.mission_report.specs.Map.{map_text}
use Rattle.residual_plan.specs.Forced.{IsForced}
use Rattle.plan_command.specs.declared.status.Refusal.{Refusal}
use Rattle.plan_command.specs.declared.status.Refusal.TheVariants.{BadFlown, TooManyNodes}
use Rattle.plan_command.specs.Plans.{IsUnplanned}
use Rattle.plan_command.specs.Flown.{IsFlown, IsUnflown, IsBadFlown}
use Rattle.plan_command.specs.MadePlans.{IsMadeAndPlanned}

-- q is a scenario that forces the prefix of these names
abbrev pub ForcesNames : Problem → List (List ℕ) → Problem → Type 0
ForcesNames p names q = IsProblem q × ((flown : List ℕ) × IsFlown p names flown × IsForced p flown q)

-- the text of such a scenario, and of its plan
abbrev pub IsReplanned : ℕ → Problem → List (List ℕ) → List ℕ → Type 0
IsReplanned nodes p names text = (q : Problem) × ForcesNames p names q × IsMadeAndPlanned nodes q text

-- why there is none
abbrev pub IsUnreplanned : ℕ → Problem → List (List ℕ) → Refusal → Type 0
IsUnreplanned nodes p names (BadFlown why) = IsBadFlown p names why
IsUnreplanned nodes p names (TooManyNodes limit) = (q : Problem) × ForcesNames p names q × IsUnplanned nodes q (TooManyNodes limit)
IsUnreplanned nodes p names _ = ⊥

-- the map of the prefix of these names
abbrev pub IsMapped : Problem → List (List ℕ) → List ℕ → Type 0
IsMapped p names text = (flown : List ℕ) × IsFlown p names flown × (text ≡ map_text p flown)

-- why there is none
abbrev pub IsUnmapped : Problem → List (List ℕ) → Refusal → Type 0
IsUnmapped p names (BadFlown why) = IsUnflown p names why
IsUnmapped p names _ = ⊥
