-- What each request makes of its input. A request reads the text of a scenario alone, a scenario and a plan or a gap plan
-- behind it, or nothing; what it then makes is a row below. Behind a scenario a gap plan is read by `checkgap` alone.
use Rattle.std.specs.Prelude.{◌≡◌, ◌⊎◌, ℕ, Bool, true, false, List, codes, Option, Some, Err}
use Rattle.search_model.specs.Problem.{Problem}
use Rattle.search_model.specs.Order.{IsBest}
use Rattle.scenario_text.specs.Reading.{front_of, alone_of}
use Rattle.scenario_text.specs.Scenarios.{IsTextOf}
use Rattle.scenario_text.specs.Canonical.{canonical_text}
use Rattle.bound_tree.specs.declared.plan.Plan.{Plan as APlan}
use Rattle.bound_tree.specs.declared.gap.GapPlan.{GapPlan}
use Rattle.bound_tree.specs.Accepts.{Accepts}
use Rattle.bound_tree.specs.Gaps.{GapAccepts}
use Rattle.tree_format.specs.PlanText.{IsWrittenPlan}
use Rattle.tree_format.specs.declared.kind.PlanFault.{PlanFault}
use Rattle.tree_format.specs.declared.plan_line.Family.{Family as TextFamily}
use Rattle.tree_format.specs.declared.plan_line.Family.TheVariants.{Plans, Gaps}
use Rattle.tree_checker.specs.declared.verdict.RejectAt.{RejectAt}
use Rattle.tree_checker.specs.declared.gap_verdict.GapRejectAt.{GapRejectAt}
use Rattle.tree_checker.specs.Reasons.{first_reason}
use Rattle.tree_checker.specs.GapReasons.{gap_reason}
use Rattle.mission_report.specs.Report.{report_text}
use Rattle.mission_report.specs.Json.{report_json}
use Rattle.scenario_maker.specs.Made.{made_problem}
use Rattle.plan_command.specs.declared.request.Request.{Request}
use Rattle.plan_command.specs.declared.request.Request.TheVariants.{Plan, Check, Report, Make, Drill, Convert, Gap, Replan, Map, Duo}
use Rattle.plan_command.specs.declared.status.Status.{Status}
use Rattle.plan_command.specs.declared.status.Status.TheVariants as statuses
use Rattle.plan_command.specs.declared.status.Refusal.{Refusal}
use Rattle.plan_command.specs.declared.status.Refusal.TheVariants.{Rejected, BadScenario, BadPlan}
use Rattle.plan_command.specs.Words.{Family, of_scenario, of_plan, of_gap, of_nothing, family_of, names_behind}
use Rattle.plan_command.specs.Lines.{rejection_of, gap_rejection_of}
use Rattle.plan_command.specs.Plans.{IsPlanOf, IsUnplanned, HasBehind, IsPlanRest, IsGapRest, HasFaultIn}
use Rattle.plan_command.specs.GapPlans.{IsGapOf, IsUngapped}
use Rattle.plan_command.specs.Replans.{IsReplanned, IsUnreplanned, IsMapped, IsUnmapped}
use Rattle.plan_command.specs.Duos.{IsPaired, IsUnpairedFrom}
use Rattle.plan_command.specs.Drills.{drill_text}

-- what a request makes of the scenario that it reads alone
abbrev pub MakesText : List (List ℕ) → Request → Problem → List ℕ → Type 0
MakesText words (Plan workers nodes) p text = IsPlanOf nodes p text
MakesText words (Gap workers nodes) p text = IsGapOf nodes p text
MakesText words (Replan workers nodes flown) p text = IsReplanned nodes p (names_behind flown words) text
MakesText words (Map flown) p text = IsMapped p (names_behind flown words) text
MakesText words (Duo workers nodes second) p text = IsPaired nodes p second text
MakesText words _ p text = ⊥

-- and why it makes nothing of it
abbrev pub IsUnmade : List (List ℕ) → Request → Problem → Refusal → Type 0
IsUnmade words (Plan workers nodes) p refusal = IsUnplanned nodes p refusal
IsUnmade words (Gap workers nodes) p refusal = IsUngapped refusal
IsUnmade words (Replan workers nodes flown) p refusal = IsUnreplanned nodes p (names_behind flown words) refusal
IsUnmade words (Map flown) p refusal = IsUnmapped p (names_behind flown words) refusal
IsUnmade words (Duo workers nodes second) p refusal = IsUnpairedFrom nodes p second refusal
IsUnmade words _ p refusal = ⊥

-- the input is a scenario and this plan
abbrev pub IsInput : List ℕ → Problem → APlan → Type 0
IsInput input p plan = HasBehind IsPlanRest input p plan

-- the input is a scenario and this gap plan
abbrev pub IsGapInput : List ℕ → Problem → GapPlan → Type 0
IsGapInput input p plan = HasBehind IsGapRest input p plan

-- the input begins with a scenario, and what follows has this first fault, as a text of the family
abbrev pub HasBadText : TextFamily → List ℕ → PlanFault → Type 0
HasBadText family input fault = (p : Problem) × HasBehind (HasFaultIn family) input p fault

-- as the text of a plan, or of a gap plan
abbrev pub HasBadPlan : List ℕ → PlanFault → Type 0
HasBadPlan input fault = HasBadText Plans input fault

abbrev pub HasBadGap : List ℕ → PlanFault → Type 0
HasBadGap input fault = HasBadText Gaps input fault

-- the input is a scenario and a plan that isn't accepted, for this first reason
abbrev pub IsRejected : List ℕ → RejectAt → Type 0
IsRejected input at = (p : Problem) × (plan : APlan) × IsInput input p plan × (Accepts p plan → ⊥) × (first_reason p plan ≡ Some at)

-- the input is a scenario and a gap plan that isn't accepted, for this first reason
abbrev pub IsGapRejected : List ℕ → GapRejectAt → Type 0
IsGapRejected input at = (p : Problem) × (plan : GapPlan) × IsGapInput input p plan × (GapAccepts p plan → ⊥) × (gap_reason p plan ≡ Some at)

-- what is accepted is told to be, or the first reason against it with its line
abbrev pub TellsWhether : {W : Type 0} → Type 0 → Option W → (W → List ℕ) → Status → List ℕ → Type 0
TellsWhether {W} Accepted reason line status text =
    (Accepted × (status ≡ statuses.Done) × (text ≡ codes "accepted\n"))
    ⊎ ((Accepted → ⊥) × (status ≡ statuses.Rejected) × ((at : W) × (reason ≡ Some at) × (text ≡ line at)))

-- so it is of a plan, and of a gap plan
abbrev pub IsVerdict : Problem → APlan → Status → List ℕ → Type 0
IsVerdict p plan status text = TellsWhether (Accepts p plan) (first_reason p plan) rejection_of status text

abbrev pub IsGapVerdict : Problem → GapPlan → Status → List ℕ → Type 0
IsGapVerdict p plan status text = TellsWhether (GapAccepts p plan) (gap_reason p plan) gap_rejection_of status text

-- the report of a path, as JSON or as lines
abbrev pub report_of : Bool → Problem → List ℕ → List ℕ
report_of true p path = report_json p path
report_of false p path = report_text p path

-- what a request says of the plan that it reads behind a scenario
abbrev pub TellsPlan : Request → Problem → APlan → Status → List ℕ → Type 0
TellsPlan Check p plan status text = IsVerdict p plan status text
TellsPlan (Report json) p plan status text = (status ≡ statuses.Done) × Accepts p plan × (text ≡ report_of json p plan.standing.path)
TellsPlan Convert p plan status text = (status ≡ statuses.Done) × Accepts p plan × IsWrittenPlan p plan text
TellsPlan _ p plan status text = ⊥

-- `report` or `convert`: what it writes it writes of an accepted plan
abbrev pub NeedsAccepted : Request → Type 0
NeedsAccepted (Report json) = Unit {0}
NeedsAccepted Convert = Unit {0}
NeedsAccepted _ = ⊥

-- the summary of a drill: the best path of the scenario that is made from the number
abbrev pub IsDrilled : ℕ → List ℕ → Type 0
IsDrilled number text = (path : List ℕ) × IsBest (made_problem number) path × (text ≡ drill_text number (made_problem number) path)

-- what a request tells that reads nothing
abbrev pub TellsNumber : Request → List ℕ → Type 0
TellsNumber (Make number) text = text ≡ canonical_text (made_problem number)
TellsNumber (Drill number workers) text = IsDrilled number text
TellsNumber _ text = ⊥

-- a request of this family answers the input by this text for `out`, and then this status
abbrev pub AnswersAs : Family → List (List ℕ) → Request → List ℕ → Status → List ℕ → Type 0
AnswersAs of_scenario words request input status text = (status ≡ statuses.Done) × ((p : Problem) × IsTextOf p input × MakesText words request p text)
AnswersAs of_plan words request input status text = (p : Problem) × (plan : APlan) × IsInput input p plan × TellsPlan request p plan status text
AnswersAs of_gap words request input status text = (p : Problem) × (plan : GapPlan) × IsGapInput input p plan × IsGapVerdict p plan status text
AnswersAs of_nothing words request input status text = (status ≡ statuses.Done) × TellsNumber request text

-- and refuses it so; too many nodes are told only where there are too many live prefixes
abbrev pub RefusesAs : Family → List (List ℕ) → Request → List ℕ → Refusal → Type 0
RefusesAs of_scenario words request input (BadScenario fault) = alone_of input ≡ Err fault
RefusesAs of_scenario words request input refusal = (p : Problem) × IsTextOf p input × IsUnmade words request p refusal
RefusesAs of_plan words request input (BadScenario fault) = front_of input ≡ Err fault
RefusesAs of_plan words request input (BadPlan fault) = HasBadPlan input fault
RefusesAs of_plan words request input (Rejected at) = NeedsAccepted request × IsRejected input at
RefusesAs of_plan words request input _ = ⊥
RefusesAs of_gap words request input (BadScenario fault) = front_of input ≡ Err fault
RefusesAs of_gap words request input (BadPlan fault) = HasBadGap input fault
RefusesAs of_gap words request input _ = ⊥
RefusesAs of_nothing words request input _ = ⊥

-- the request that the words spell answers the input so, or refuses it so
abbrev pub Answers : List (List ℕ) → Request → List ℕ → Status → List ℕ → Type 0
Answers words request input status text = AnswersAs (family_of request) words request input status text

abbrev pub Refuses : List (List ℕ) → Request → List ℕ → Refusal → Type 0
Refuses words request input refusal = RefusesAs (family_of request) words request input refusal
