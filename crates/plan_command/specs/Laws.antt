-- What the two halves of the program say of each other.
use Rattle.std.specs.Prelude.{◌≡◌, ℕ, ◌+◌, ◌≤◌, List, [], ◌∷◌, ◌++◌, length}
use Rattle.search_model.specs.Problem.{Problem}
use Rattle.search_model.specs.Same.{AreSame}
use Rattle.scenario_text.specs.Canonical.{canonical_text}
use Rattle.scenario_text.specs.Scenarios.{IsTextOf}
use Rattle.plan_command.specs.declared.request.Request.TheVariants.{Check, CheckGap}
use Rattle.plan_command.specs.declared.status.Status.{Status}
use Rattle.plan_command.specs.declared.status.Status.TheVariants.{Done}
use Rattle.plan_command.specs.declared.request.TheConstants.{MOST_CLOSED, MOST_SCENARIO}
use Rattle.plan_command.specs.Plans.{IsPlanOf, BeginsWith, IsRest}
use Rattle.plan_command.specs.GapPlans.{IsGapOf}
use Rattle.plan_command.specs.Complete.{IsWithin, IsDue, IsUnlessNoMemory}

-- the text ends with a line feed
abbrev pub EndsInFeed : List ℕ → Type 0
EndsInFeed text = (start : List ℕ) × (text ≡ start ++ 10 ∷ [])

-- what is planned is accepted: where a text is planned for an input, and stands, perhaps after blanks and line feeds, behind any
-- text of a scenario that is the same search, then a check of both is due to say that it is accepted
abbrev pub PlannedIsAccepted : Type 0
PlannedIsAccepted = (words : List (List ℕ)) (p q : Problem) (nodes : ℕ) (input rest both : List ℕ) (status : Status) →
    IsTextOf p input → AreSame p q → BeginsWith q both rest → IsRest (IsPlanOf nodes p) rest → IsDue words Check both status → IsUnlessNoMemory Done status

-- it does so behind the canonical text of the scenario
abbrev pub PlannedBehindCanonical : Type 0
PlannedBehindCanonical = (words : List (List ℕ)) (p : Problem) (nodes : ℕ) (input rest : List ℕ) (status : Status) →
    IsTextOf p input → IsRest (IsPlanOf nodes p) rest → IsDue words Check (canonical_text p ++ rest) status → IsUnlessNoMemory Done status

-- and behind the very text that was read, where that ends with a line feed (else the plan's first word would stand in the line
-- of its `end`)
abbrev pub PlannedBehindInput : Type 0
PlannedBehindInput = (words : List (List ℕ)) (p : Problem) (nodes : ℕ) (input rest : List ℕ) (status : Status) →
    IsTextOf p input → EndsInFeed input → IsRest (IsPlanOf nodes p) rest → IsDue words Check (input ++ rest) status → IsUnlessNoMemory Done status

-- and what is planned isn't too long for a check behind any text of a scenario that, with what stands before the plan, isn't
-- too long to be planned
abbrev pub PlannedIsWithin : Type 0
PlannedIsWithin = (p q : Problem) (nodes : ℕ) (input rest both : List ℕ) (begins : BeginsWith q both rest) (is : IsRest (IsPlanOf nodes p) rest) →
    IsTextOf p input → begins.bytes + length is.blanks ≤ MOST_SCENARIO → IsWithin Check both

-- so also behind an input that was planned
abbrev pub PlannedIsWithinBehindInput : Type 0
PlannedIsWithinBehindInput = (p : Problem) (nodes : ℕ) (input text : List ℕ) → IsTextOf p input → IsPlanOf nodes p text → length input ≤ MOST_SCENARIO → IsWithin Check (input ++ text)

-- so it is of a gap plan: where a text is written for an input with at most so many records, a check of it behind any text of
-- a scenario that is the same search is due to say that it is accepted
abbrev pub GappedIsAccepted : Type 0
GappedIsAccepted = (words : List (List ℕ)) (p q : Problem) (nodes : ℕ) (input rest both : List ℕ) (status : Status) →
    IsTextOf p input → AreSame p q → BeginsWith q both rest → IsRest (IsGapOf nodes p) rest → IsDue words CheckGap both status → IsUnlessNoMemory Done status

abbrev pub GappedBehindCanonical : Type 0
GappedBehindCanonical = (words : List (List ℕ)) (p : Problem) (nodes : ℕ) (input rest : List ℕ) (status : Status) →
    IsTextOf p input → IsRest (IsGapOf nodes p) rest → IsDue words CheckGap (canonical_text p ++ rest) status → IsUnlessNoMemory Done status

abbrev pub GappedBehindInput : Type 0
GappedBehindInput = (words : List (List ℕ)) (p : Problem) (nodes : ℕ) (input rest : List ℕ) (status : Status) →
    IsTextOf p input → EndsInFeed input → IsRest (IsGapOf nodes p) rest → IsDue words CheckGap (input ++ rest) status → IsUnlessNoMemory Done status

-- and it isn't too long, where no more records are asked for than may be
abbrev pub GappedIsWithin : Type 0
GappedIsWithin = (p q : Problem) (nodes : ℕ) (input rest both : List ℕ) (begins : BeginsWith q both rest) (is : IsRest (IsGapOf nodes p) rest) →
    nodes ≤ MOST_CLOSED → IsTextOf p input → begins.bytes + length is.blanks ≤ MOST_SCENARIO → IsWithin CheckGap both

abbrev pub GappedIsWithinBehindInput : Type 0
GappedIsWithinBehindInput = (p : Problem) (nodes : ℕ) (input text : List ℕ) →
    nodes ≤ MOST_CLOSED → IsTextOf p input → IsGapOf nodes p text → length input ≤ MOST_SCENARIO → IsWithin CheckGap (input ++ text)
