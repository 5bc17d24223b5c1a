-- What a call has done that ends so.
use Rattle.std.specs.Prelude.{◌≡◌, ◌≤◌, ◌+◌, ◌⊎◌, ◌↔◌, ◌++◌, ℕ, Bool, List, Some, None, codes, length, map}
use Rattle.std.specs.Io.KnownBytes.{Consumes, Appends, IsAtEnd}
use Rattle.byte_ports.specs.Causes.{Rose}
use Rattle.byte_ports.specs.Taken.{TakesCount, TakesAtMost}
use Rattle.search_model.specs.Problem.{Problem, IsProblem}
use Rattle.search_model.specs.Order.{IsBest, Starts}
use Rattle.searcher_maps.specs.Carried.{IsBestAmong}
use Rattle.residual_plan.specs.Forced.{source_of, IsForced}
use Rattle.duo_search.specs.Product.{pair_value, IsProduct}
use Rattle.duo_search.specs.Pairs.{IsPathFrom, firsts_of, seconds_of}
use Rattle.scenario_text.specs.declared.kind.TextFault.{TextFault}
use Rattle.scenario_text.specs.Scenarios.{IsTextOf}
use Rattle.scenario_text.specs.Canonical.{canonical_text}
use Rattle.bound_tree.specs.declared.plan.Plan.{Plan as APlan}
use Rattle.bound_tree.specs.declared.gap.GapPlan.{GapPlan}
use Rattle.bound_tree.specs.Accepts.{Accepts}
use Rattle.bound_tree.specs.Gaps.{GapAccepts}
use Rattle.mission_report.specs.Map.{map_text}
use Rattle.tree_format.specs.declared.kind.PlanFault.{PlanFault}
use Rattle.tree_format.specs.PlanText.{IsWrittenPlan, IsGapText}
use Rattle.tree_checker.specs.declared.verdict.RejectAt.{RejectAt}
use Rattle.tree_checker.specs.declared.gap_verdict.GapRejectAt.{GapRejectAt}
use Rattle.scenario_maker.specs.Made.{made_problem}
use Rattle.plan_command.specs.declared.request.Request.{Request}
use Rattle.plan_command.specs.declared.request.Request.TheVariants.{Plan, Check, Report, Make, Drill, Convert, Gap, CheckGap, Replan, Map, Duo}
use Rattle.plan_command.specs.declared.status.Status.{Status}
use Rattle.plan_command.specs.declared.status.Status.TheVariants as statuses
use Rattle.plan_command.specs.declared.status.Refusal.{Refusal}
use Rattle.plan_command.specs.declared.status.Refusal.TheVariants.{BadScenario, BadPlan, BadFlown, BadDuo, TooManyNodes}
use Rattle.plan_command.specs.declared.flown.FlownWhy.{FlownWhy}
use Rattle.plan_command.specs.declared.pairing.DuoWhy.{DuoWhy}
use Rattle.plan_command.specs.Words.{Spells, SpellNone, limit_of, names_behind}
use Rattle.plan_command.specs.Lines.{rejection_of, gap_rejection_of, refused_status}
use Rattle.plan_command.specs.Plans.{IsCertified}
use Rattle.plan_command.specs.GapPlans.{IsAbove, IsGapped}
use Rattle.plan_command.specs.Flown.{IsFlown}
use Rattle.plan_command.specs.Duos.{Names}
use Rattle.plan_command.specs.Commands.{IsInput, IsGapInput, IsRejected, IsGapRejected, report_of, IsDrilled, NeedsAccepted, Refuses}
use Rattle.plan_command.specs.Inputs.{Course, to_end, to_fault, too_far, ReadsPart}
use Rattle.plan_command.specs.Run.{Call, IsRefusal, IsCutOff}
use Rattle.plan_command.specs.Complete.{IsHeard, IsUndisturbed, IsWithin, IsLonger, IsFeasible, IsAcceptable, IsRejectable, IsUnlessNoMemory, IsDue, IsByText}

-- the source was read to its end, and these are its bytes: by what it tells of those left, and by what each read gave
abbrev pub ReadsAll : {Went : Course → Type 0} → Call Went → List ℕ → Type 0
ReadsAll {Went} c input =
    Consumes c.before.source.left c.after.source.left input × IsAtEnd c.after.source.left
    × ((limit : ℕ) × (length input ≤ limit) × Went (to_end limit input))

-- nothing was read
abbrev pub ReadsNothing : {Went : Course → Type 0} → Call Went → Type 0
ReadsNothing c = c.after.source.left ≡ c.before.source.left

-- `out` grew by this text
abbrev pub Writes : {Went : Course → Type 0} → Call Went → List ℕ → Type 0
Writes c text = Appends c.before.wrote c.after.wrote text

-- `out` is unchanged
abbrev pub WritesNothing : {Went : Course → Type 0} → Call Went → Type 0
WritesNothing c = c.after.wrote ≡ c.before.wrote

-- where a plan was asked for, the input is the text of a scenario alone, and `out` grew by plan text of the version
-- that the horizon asks for: the best path of that scenario, its exact value and the whole weight, and records that are
-- accepted, at most as many as were allowed; no branch has a prefix that the opening closes by a bound
abbrev pub Plans : {Went : Course → Type 0} → Call Went → Type 0
Plans c = (workers nodes : ℕ) → Spells c.words (Plan workers nodes) →
    (p : Problem) × (input : List ℕ) × IsTextOf p input × ReadsAll c input
    × ((plan : APlan) × (text : List ℕ) × IsCertified p plan × (length plan.tree ≤ nodes) × IsWrittenPlan p plan text × Writes c text)

-- where a gap plan was asked for, the input is the text of a scenario alone, and `out` grew by the text of a gap plan: a path
-- that isn't worse than the opening, its exact value, a ceiling that no path exceeds, and nodes that are accepted for it. At
-- most as many records as were allowed are closed; where nothing waits, the path is the best, and else there are more live
-- prefixes than that, and exactly so many records
abbrev pub Gaps : {Went : Course → Type 0} → Call Went → Type 0
Gaps c = (workers nodes : ℕ) → Spells c.words (Gap workers nodes) →
    (p : Problem) × (input : List ℕ) × IsTextOf p input × ReadsAll c input
    × ((plan : GapPlan) × (text : List ℕ) × IsGapped nodes p plan × IsGapText p plan text × Writes c text)

-- where a plan behind a flown prefix was asked for, the input is the text of a scenario alone, and `out` grew by the canonical
-- text of a scenario that forces the prefix of the names, and at once behind it by the text of its plan, as for a plan, so that
-- `check` accepts both (`made_is_accepted`); its path, taken back, is the best of those that begin with the prefix
abbrev pub Replans : {Went : Course → Type 0} → Call Went → Type 0
Replans c = (workers nodes flown : ℕ) → Spells c.words (Replan workers nodes flown) →
    (p q : Problem) × (input prefix : List ℕ) × IsTextOf p input × ReadsAll c input
    × IsFlown p (names_behind flown c.words) prefix × IsProblem q × IsForced p prefix q
    × ((plan : APlan) × (text : List ℕ) × IsCertified q plan × (length plan.tree ≤ nodes) × IsWrittenPlan q plan text
    × IsBestAmong p (Starts prefix) (map (source_of p prefix) plan.standing.path) × Writes c (canonical_text q ++ text))

-- where a map was asked for, the input is the text of a scenario alone, and `out` grew by the map of the prefix of the names
abbrev pub Maps : {Went : Course → Type 0} → Call Went → Type 0
Maps c = (flown : ℕ) → Spells c.words (Map flown) →
    (p : Problem) × (input prefix : List ℕ) × IsTextOf p input × ReadsAll c input
    × IsFlown p (names_behind flown c.words) prefix × Writes c (map_text p prefix)

-- the path of a product scenario stands for two paths, from both starts; together they find what its plan says, and no two
-- such paths find more
pub record FindsMost (p : Problem) (second : ℕ) (plan : APlan) : Type 0 where
  pub first_path : IsPathFrom p p.start (firsts_of p.positions plan.standing.path)
  pub second_path : IsPathFrom p second (seconds_of p.positions plan.standing.path)
  pub value : plan.standing.value ≡ pair_value p (firsts_of p.positions plan.standing.path) (seconds_of p.positions plan.standing.path)
  pub most : (a b : List ℕ) → IsPathFrom p p.start a → IsPathFrom p second b → pair_value p a b ≤ plan.standing.value

-- where a plan for two was asked for, the input is the text of a scenario alone, and `out` grew by the canonical text of the
-- product scenario for the second start, and at once behind it by the text of its plan, as for a plan, so that `check` accepts
-- both (`made_is_accepted`)
abbrev pub Pairs : {Went : Course → Type 0} → Call Went → Type 0
Pairs c = (workers nodes : ℕ) (name : List ℕ) → Spells c.words (Duo workers nodes name) →
    (p q : Problem) × (input : List ℕ) × (second : ℕ) × IsTextOf p input × ReadsAll c input
    × Names p name second × IsProblem q × IsProduct p second q
    × ((plan : APlan) × (text : List ℕ) × IsCertified q plan × (length plan.tree ≤ nodes) × IsWrittenPlan q plan text
    × FindsMost p second plan × Writes c (canonical_text q ++ text))

-- the input is a scenario and a plan that is accepted, so that its path is the best
abbrev pub ReadsBest : {Went : Course → Type 0} → Call Went → Problem → APlan → Type 0
ReadsBest c p plan = (input : List ℕ) × ReadsAll c input × IsInput input p plan × Accepts p plan × IsBest p plan.standing.path

-- where a check was asked for, it read such an input and said `accepted`
abbrev pub Affirms : {Went : Course → Type 0} → Call Went → Type 0
Affirms c = Spells c.words Check → ((p : Problem) × (plan : APlan) × ReadsBest c p plan) × Writes c (codes "accepted\n")

-- where a check of a gap plan was asked for, the input is a scenario and a gap plan that is accepted, so that no path finds
-- more than its ceiling, and it said `accepted`
abbrev pub AffirmsGap : {Went : Course → Type 0} → Call Went → Type 0
AffirmsGap c = Spells c.words CheckGap →
    ((p : Problem) × (plan : GapPlan) × (input : List ℕ) × ReadsAll c input × IsGapInput input p plan × GapAccepts p plan × IsAbove p plan.ceiling)
    × Writes c (codes "accepted\n")

-- where a report was asked for, it read such an input and reported the plan's path, as lines or as JSON
abbrev pub Reports : {Went : Course → Type 0} → Call Went → Type 0
Reports c = (json : Bool) → Spells c.words (Report json) →
    (p : Problem) × (plan : APlan) × ReadsBest c p plan × Writes c (report_of json p plan.standing.path)

-- where a new text of the plan was asked for, it read such an input, and `out` grew by the plan's one text of
-- the version that the horizon asks for
abbrev pub Converts : {Went : Course → Type 0} → Call Went → Type 0
Converts c = Spells c.words Convert → (p : Problem) × (plan : APlan) × ReadsBest c p plan × ((text : List ℕ) × IsWrittenPlan p plan text × Writes c text)

-- the reason was written where a check was asked for, and nothing where a report or a new text was
abbrev pub WritesReason : {Went : Course → Type 0} → Call Went → RejectAt → Type 0
WritesReason c at = (Spells c.words Check × Writes c (rejection_of at)) ⊎ ((request : Request) × NeedsAccepted request × Spells c.words request × WritesNothing c)

-- the input is a scenario and a plan that isn't accepted, for this first reason
abbrev pub RejectsPlan : {Went : Course → Type 0} → Call Went → Type 0
RejectsPlan c = (input : List ℕ) × (at : RejectAt) × ReadsAll c input × IsRejected input at × WritesReason c at

-- a check of a gap plan was asked for, and the input is a scenario and one that isn't accepted, for this first reason, which
-- was written
abbrev pub RejectsGap : {Went : Course → Type 0} → Call Went → Type 0
RejectsGap c = Spells c.words CheckGap × ((input : List ℕ) × (at : GapRejectAt) × ReadsAll c input × IsGapRejected input at × Writes c (gap_rejection_of at))

abbrev pub Rejects : {Went : Course → Type 0} → Call Went → Type 0
Rejects c = RejectsPlan c ⊎ RejectsGap c

-- where a scenario was asked for, `out` grew by the canonical text of the one that the number makes
abbrev pub Makes : {Went : Course → Type 0} → Call Went → Type 0
Makes c = (number : ℕ) → Spells c.words (Make number) → ReadsNothing c × Writes c (canonical_text (made_problem number))

-- where a drill was asked for, `out` grew by the summary of the best path of the scenario that the number makes
abbrev pub Drills : {Went : Course → Type 0} → Call Went → Type 0
Drills c = (number workers : ℕ) → Spells c.words (Drill number workers) → ReadsNothing c × ((text : List ℕ) × IsDrilled number text × Writes c text)

-- one byte more than the request's limit was taken
abbrev pub TakesTooMuch : {Went : Course → Type 0} → Call Went → Type 0
TakesTooMuch {Went} c = (request : Request) × (limit : ℕ) × Spells c.words request × (limit_of request ≡ Some limit)
    × TakesCount c.before.source.left c.after.source.left (limit + 1) × Went (too_far limit) × WritesNothing c

-- the source's count of faults rose, and at most the request's limit was taken
abbrev pub FailsToRead : {Went : Course → Type 0} → Call Went → Type 0
FailsToRead {Went} c = (request : Request) × (limit : ℕ) × Spells c.words request × (limit_of request ≡ Some limit)
    × TakesAtMost c.before.source.left c.after.source.left limit × Rose c.before.source.faults c.after.source.faults
    × Went (to_fault limit) × WritesNothing c

-- at most the request's limit was taken, and nothing where the request reads nothing
abbrev pub TakesNoMore : {Went : Course → Type 0} → Call Went → Type 0
TakesNoMore {Went} c = (request : Request) × Spells c.words request × ReadsPart Went (limit_of request) c.before.source c.after.source

-- What a run has done that ends with this status.
pub record Keeps {Went : Course → Type 0} (c : Call Went) (status : Status) : Type 0 where
  -- `plan` at Done, for every number of workers and every interleaving: the best path with its exact value
  pub planned : status ≡ statuses.Done → Plans c
  -- `gap` at Done, for every number of workers and every interleaving: a path, and a proved ceiling of all paths
  pub gapped : status ≡ statuses.Done → Gaps c
  -- `replan`: the best path among those that begin with the flown prefix
  pub replanned : status ≡ statuses.Done → Replans c
  -- `map`: where the target may be in each flown period
  pub mapped : status ≡ statuses.Done → Maps c
  -- `duo`: the two paths that together find most
  pub paired : status ≡ statuses.Done → Pairs c
  -- `check`: it read a plan that is accepted, so that its path is the best
  pub accepted : status ≡ statuses.Done → Affirms c
  -- `checkgap`: it read a gap plan that is accepted, so that no path exceeds its ceiling
  pub accepted_gap : status ≡ statuses.Done → AffirmsGap c
  -- `report`, as lines or as JSON, and `convert`: they read what `check` reads
  pub reported : status ≡ statuses.Done → Reports c
  pub converted : status ≡ statuses.Done → Converts c
  -- `make` and `drill`: what the number makes
  pub made : status ≡ statuses.Done → Makes c
  pub drilled : status ≡ statuses.Done → Drills c
  -- Rejected comes only where the input is a scenario and a plan or gap plan that isn't accepted, for this first reason
  pub rejected : status ≡ statuses.Rejected → Rejects c
  -- Usage comes exactly where the words spell no request
  pub usage : (status ≡ statuses.Usage) ↔ SpellNone c.words
  -- these come only where the whole input was read and is refused so
  pub bad_scenario : status ≡ statuses.BadScenario → (fault : TextFault) × IsRefusal c (BadScenario fault)
  pub bad_plan : status ≡ statuses.BadPlan → (fault : PlanFault) × IsRefusal c (BadPlan fault)
  pub bad_flown : status ≡ statuses.BadFlown → (why : FlownWhy) × IsRefusal c (BadFlown why)
  pub bad_duo : status ≡ statuses.BadDuo → (why : DuoWhy) × IsRefusal c (BadDuo why)
  pub too_many_nodes : status ≡ statuses.TooManyNodes → (nodes : ℕ) × IsRefusal c (TooManyNodes nodes)
  -- TooLong comes only where one byte more than the request's limit was taken
  pub too_long : status ≡ statuses.TooLong → TakesTooMuch c
  -- ReadFault only where the source's count rose in this call, and at most the limit was taken then
  pub read_fault : status ≡ statuses.ReadFault → FailsToRead c
  -- WriteFault only where the count of `out` rose; `out` grew by a front of the answer
  pub write_fault : status ≡ statuses.WriteFault → Rose c.before.write_faults c.after.write_faults × IsCutOff c
  -- at NoMemory `out` is unchanged, or grew by a front of the answer
  pub no_memory : status ≡ statuses.NoMemory → WritesNothing c ⊎ IsCutOff c
  -- and of the source at most the limit was taken
  pub part_read : status ≡ statuses.NoMemory → TakesNoMore c

-- When a run ends so.
pub record Completes {Went : Course → Type 0} (c : Call Went) (status : Status) : Type 0 where
  -- an input that the source tells is answered, or refused, as it is due, where it is within the limit and no port fails
  pub complete : (request : Request) (input : List ℕ) → IsUndisturbed c request input → IsDue c.words request input status
  -- so what is asked of a scenario is written, where what is planned has no more live prefixes than the limit,
  pub finishes : (request : Request) (input : List ℕ) → IsUndisturbed c request input → IsFeasible c.words request input → IsUnlessNoMemory statuses.Done status
  -- a plan that is accepted is told to be, reported, or written anew, and a gap plan that is accepted is told to be,
  pub accepts : (request : Request) (input : List ℕ) → IsUndisturbed c request input → IsAcceptable request input → IsUnlessNoMemory statuses.Done status
  -- one that isn't is rejected,
  pub rejects : (request : Request) (input : List ℕ) → IsUndisturbed c request input → IsRejectable request input → IsUnlessNoMemory statuses.Rejected status
  -- and a request that reads nothing is answered
  pub makes : (request : Request) → Spells c.words request → limit_of request ≡ None → (Rose c.before.write_faults c.after.write_faults → ⊥) → IsUnlessNoMemory statuses.Done status
  -- a refusal by the input's text comes wherever it is due, whatever the sink does
  pub refused : (request : Request) (input : List ℕ) (refusal : Refusal) → IsHeard c request input → IsWithin request input →
      Refuses c.words request input refusal → IsByText refusal → IsUnlessNoMemory (refused_status refusal) status
  -- and so does TooLong, of an input that is longer than the limit
  pub longer : (request : Request) (input : List ℕ) → IsHeard c request input → IsLonger request input → IsUnlessNoMemory statuses.TooLong status
