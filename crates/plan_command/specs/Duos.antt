-- The best pair of paths for two searchers.
use Rattle.std.specs.Prelude.{ℕ, ◌≡◌, ◌<◌, List, Contains}
use Rattle.search_model.specs.Problem.{Problem, IsProblem, position_name}
use Rattle.duo_search.specs.Product.{IsProduct}
use Rattle.duo_search.specs.Refusals.{IsRefused}
use Rattle.duo_search.specs.declared.faults.DuoFault.TheVariants as faults
use Rattle.plan_command.specs.declared.pairing.DuoWhy.{DuoWhy}
use Rattle.plan_command.specs.declared.pairing.DuoWhy.TheVariants.{UnknownName, TooManyPositions, TooManyMoves, TooFine, TooWide}
use Rattle.plan_command.specs.declared.status.Refusal.{Refusal}
use Rattle.plan_command.specs.declared.status.Refusal.TheVariants.{BadDuo, TooManyNodes}
use Rattle.plan_command.specs.Plans.{IsUnplanned}
use Rattle.plan_command.specs.MadePlans.{IsMadeAndPlanned}

-- the name is that of this position
abbrev pub Names : Problem → List ℕ → ℕ → Type 0
Names p name a = (a < p.positions) × (position_name p a ≡ name)

-- q is the product scenario in which the second searcher starts at the position of this name
abbrev pub PairsNamed : Problem → List ℕ → Problem → Type 0
PairsNamed p name q = IsProblem q × ((second : ℕ) × Names p name second × IsProduct p second q)

-- the text of such a scenario, and of its plan
abbrev pub IsPaired : ℕ → Problem → List ℕ → List ℕ → Type 0
IsPaired nodes p name text = (q : Problem) × PairsNamed p name q × IsMadeAndPlanned nodes q text

-- why there is no product scenario
abbrev pub IsUnpaired : Problem → DuoWhy → Type 0
IsUnpaired p UnknownName = ⊥
IsUnpaired p TooManyPositions = IsRefused p faults.TooManyPositions
IsUnpaired p TooManyMoves = IsRefused p faults.TooManyMoves
IsUnpaired p TooFine = IsRefused p faults.TooFine
IsUnpaired p TooWide = IsRefused p faults.TooWide

-- the same for a second start by its name: the first of these that holds
abbrev pub IsBadDuo : Problem → List ℕ → DuoWhy → Type 0
IsBadDuo p name UnknownName = ¬ Contains p.position_names name
IsBadDuo p name why = (second : ℕ) × Names p name second × IsUnpaired p why

-- why there is no plan for two
abbrev pub IsUnpairedFrom : ℕ → Problem → List ℕ → Refusal → Type 0
IsUnpairedFrom nodes p name (BadDuo why) = IsBadDuo p name why
IsUnpairedFrom nodes p name (TooManyNodes limit) = (q : Problem) × PairsNamed p name q × IsUnplanned nodes q (TooManyNodes limit)
IsUnpairedFrom nodes p name _ = ⊥
