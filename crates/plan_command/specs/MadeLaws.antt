-- What the plan of a scenario that is made says of the scenario that it is made of.
use Rattle.std.specs.Prelude.{ℕ, ◌≡◌, ◌<◌, ◌≤◌, List, ◌++◌, length, map}
use Rattle.search_model.specs.Problem.{Problem, IsProblem}
use Rattle.search_model.specs.Legal.{IsLegal}
use Rattle.search_model.specs.Same.{AreSame}
use Rattle.search_model.specs.Order.{Starts}
use Rattle.searcher_maps.specs.Carried.{IsBestAmong}
use Rattle.residual_plan.specs.Forced.{source_of, IsForced}
use Rattle.duo_search.specs.Product.{pair_value, IsProduct}
use Rattle.duo_search.specs.Pairs.{IsPathFrom, firsts_of, seconds_of}
use Rattle.bound_tree.specs.declared.plan.Plan.{Plan}
use Rattle.bound_tree.specs.Accepts.{Accepts}
use Rattle.scenario_text.specs.Canonical.{canonical_text}
use Rattle.tree_format.specs.PlanText.{IsWrittenPlan}
use Rattle.plan_command.specs.declared.request.Request.TheVariants.{Check}
use Rattle.plan_command.specs.Plans.{IsCertified, HasFewLive}
use Rattle.plan_command.specs.Commands.{IsInput}
use Rattle.plan_command.specs.declared.flown.FlownWhy.{FlownWhy}
use Rattle.plan_command.specs.declared.pairing.DuoWhy.{DuoWhy}
use Rattle.plan_command.specs.Flown.{AreNamed, IsFlown, IsUnflown, IsBadFlown}
use Rattle.plan_command.specs.Replans.{ForcesNames}
use Rattle.plan_command.specs.Duos.{Names, PairsNamed, IsBadDuo}
use Rattle.plan_command.specs.MadePlans.{IsMadeAndPlanned}
use Rattle.plan_command.specs.Complete.{IsWithin}

-- the planned path, taken back, is the best of those that begin with the flown prefix
abbrev pub ReplannedIsBest : Type 0
ReplannedIsBest = (p q : Problem) (flown : List ℕ) (plan : Plan) → IsProblem p → IsProblem q → IsLegal p flown → IsForced p flown q → IsCertified q plan →
    IsBestAmong p (Starts flown) (map (source_of p flown) plan.standing.path)

-- the planned path stands for a pair of paths that finds what the plan says, and no pair finds more
abbrev pub PairedIsBest : Type 0
PairedIsBest = (p q : Problem) (second : ℕ) (plan : Plan) → IsProblem p → IsProblem q → second < p.positions → IsProduct p second q → IsCertified q plan →
    let path = plan.standing.path in
    IsPathFrom p p.start (firsts_of p.positions path) × IsPathFrom p second (seconds_of p.positions path)
    × (plan.standing.value ≡ pair_value p (firsts_of p.positions path) (seconds_of p.positions path))
    × ((a b : List ℕ) → IsPathFrom p p.start a → IsPathFrom p second b → pair_value p a b ≤ plan.standing.value)

-- the text of a scenario and of its plan is an input: of a scenario that is the same search, and of a plan that is accepted for it
abbrev pub MadeIsAccepted : Type 0
MadeIsAccepted = (q : Problem) (nodes : ℕ) (text : List ℕ) → IsProblem q → IsMadeAndPlanned nodes q text →
    (r : Problem) × (plan : Plan) × AreSame q r × IsInput text r plan × Accepts r plan

-- and it isn't too long for a check
abbrev pub MadeIsWithin : Type 0
MadeIsWithin = (q : Problem) (nodes : ℕ) (text : List ℕ) → IsProblem q → IsMadeAndPlanned nodes q text → IsWithin Check text

-- so it is of what `replan` and `duo` write, by what `Replans` and `Pairs` of `Keeps` say of it
abbrev pub TellsAccepted : List ℕ → Type 0
TellsAccepted text = IsWithin Check text × ((q r : Problem) × (plan : Plan) × AreSame q r × IsInput text r plan × Accepts r plan)

abbrev pub WrittenIsAccepted : Type 0
WrittenIsAccepted = (q : Problem) (plan : Plan) (nodes : ℕ) (text : List ℕ) → IsProblem q → IsCertified q plan → length plan.tree ≤ nodes → IsWrittenPlan q plan text →
    TellsAccepted (canonical_text q ++ text)

-- all scenarios that force the prefix of the same names are one search
abbrev pub ForcedByNamesIsOne : Type 0
ForcedByNamesIsOne = (p q r : Problem) (names : List (List ℕ)) → IsProblem p → ForcesNames p names q → ForcesNames p names r → AreSame q r

-- and so are all product scenarios for the second start of one name
abbrev pub PairedByNameIsOne : Type 0
PairedByNameIsOne = (p q r : Problem) (name : List ℕ) → IsProblem p → PairsNamed p name q → PairsNamed p name r → AreSame q r

-- where one has no more live prefixes under its opening than a limit, no scenario that is the same search has more
abbrev pub FewLiveStays : Type 0
FewLiveStays = (q r : Problem) (limit : ℕ) → IsProblem q → IsProblem r → AreSame q r → HasFewLive q limit → HasFewLive r limit

-- names are those of one prefix
abbrev pub OnePrefixIsNamed : Type 0
OnePrefixIsNamed = (p : Problem) (names : List (List ℕ)) (flown other : List ℕ) → IsProblem p → AreNamed p names flown → AreNamed p names other → flown ≡ other

-- the names of a legal prefix aren't refused
abbrev pub FlownIsntRefused : Type 0
FlownIsntRefused = (p : Problem) (names : List (List ℕ)) (flown : List ℕ) (why : FlownWhy) → IsProblem p → IsFlown p names flown → ¬ IsUnflown p names why

-- nor are those of a prefix that a scenario forces
abbrev pub ForcedIsntRefused : Type 0
ForcedIsntRefused = (p q : Problem) (names : List (List ℕ)) (flown : List ℕ) (why : FlownWhy) → IsProblem p → IsProblem q → IsFlown p names flown → IsForced p flown q →
    ¬ IsBadFlown p names why

-- and what is refused is refused for one reason
abbrev pub OneWhyIsntForced : Type 0
OneWhyIsntForced = (p : Problem) (names : List (List ℕ)) (why other : FlownWhy) → IsProblem p → IsBadFlown p names why → IsBadFlown p names other → why ≡ other

-- a second start of which there is a product isn't refused
abbrev pub ProductIsntRefused : Type 0
ProductIsntRefused = (p q : Problem) (name : List ℕ) (second : ℕ) (why : DuoWhy) → IsProblem p → IsProblem q → Names p name second → IsProduct p second q → ¬ IsBadDuo p name why

-- and one that is refused is refused for one reason
abbrev pub OneWhyIsntPaired : Type 0
OneWhyIsntPaired = (p : Problem) (name : List ℕ) (why other : DuoWhy) → IsProblem p → IsBadDuo p name why → IsBadDuo p name other → why ≡ other
