-- What is planned of a scenario that is made, by the scenario that it is made of.
use Rattle.std.proofs.Common.{ℕ, List, Result, Ok, Err}
use Rattle.std.specs.Global.{Vec}
use Rattle.search_model.specs.Problem.{Problem}
use Rattle.plan_command.specs.declared.status.Refusal.TheVariants as refusals
use Rattle.plan_command.specs.declared.status.Stop.{Stop}
use Rattle.plan_command.specs.declared.status.Stop.TheVariants as stops
use Rattle.plan_command.specs.Gives.{Gives}
use Rattle.plan_command.specs.Plans.{IsUnplanned}
use Rattle.plan_command.specs.MadePlans.{IsMadeAndPlanned}
use Rattle.plan_command.specs.Replans.{ForcesNames, IsReplanned, IsUnreplanned}
use Rattle.plan_command.specs.Duos.{PairsNamed, IsPaired, IsUnpairedFrom}

pub forced_replans : (nodes : ℕ) (p q : Problem) (names : List (List ℕ)) (made : Result (Vec ℕ) Stop) → ForcesNames p names q → Gives (IsMadeAndPlanned nodes q) (IsUnplanned nodes q) made →
    Gives (IsReplanned nodes p names) (IsUnreplanned nodes p names) made
forced_replans nodes p q names (Ok text) forces writes = (q, forces, writes)
forced_replans nodes p q names (Err (stops.Refused (refusals.TooManyNodes limit))) forces many = (q, forces, many)
forced_replans nodes p q names (Err (stops.Refused (refusals.Rejected at))) forces none = absurd none
forced_replans nodes p q names (Err (stops.Refused (refusals.BadScenario fault))) forces none = absurd none
forced_replans nodes p q names (Err (stops.Refused (refusals.BadPlan fault))) forces none = absurd none
forced_replans nodes p q names (Err (stops.Refused (refusals.BadFlown why))) forces none = absurd none
forced_replans nodes p q names (Err (stops.Refused (refusals.BadDuo why))) forces none = absurd none
forced_replans nodes p q names (Err stops.NoMemory) forces none = tt
forced_replans nodes p q names (Err stops.Usage) forces none = absurd none
forced_replans nodes p q names (Err stops.ReadFault) forces none = absurd none
forced_replans nodes p q names (Err stops.TooLong) forces none = absurd none
forced_replans nodes p q names (Err stops.WriteFault) forces none = absurd none

pub product_pairs : (nodes : ℕ) (p q : Problem) (name : List ℕ) (made : Result (Vec ℕ) Stop) → PairsNamed p name q → Gives (IsMadeAndPlanned nodes q) (IsUnplanned nodes q) made →
    Gives (IsPaired nodes p name) (IsUnpairedFrom nodes p name) made
product_pairs nodes p q name (Ok text) pairs writes = (q, pairs, writes)
product_pairs nodes p q name (Err (stops.Refused (refusals.TooManyNodes limit))) pairs many = (q, pairs, many)
product_pairs nodes p q name (Err (stops.Refused (refusals.Rejected at))) pairs none = absurd none
product_pairs nodes p q name (Err (stops.Refused (refusals.BadScenario fault))) pairs none = absurd none
product_pairs nodes p q name (Err (stops.Refused (refusals.BadPlan fault))) pairs none = absurd none
product_pairs nodes p q name (Err (stops.Refused (refusals.BadFlown why))) pairs none = absurd none
product_pairs nodes p q name (Err (stops.Refused (refusals.BadDuo why))) pairs none = absurd none
product_pairs nodes p q name (Err stops.NoMemory) pairs none = tt
product_pairs nodes p q name (Err stops.Usage) pairs none = absurd none
product_pairs nodes p q name (Err stops.ReadFault) pairs none = absurd none
product_pairs nodes p q name (Err stops.TooLong) pairs none = absurd none
product_pairs nodes p q name (Err stops.WriteFault) pairs none = absurd none
