-- What is asked, by what it reads, and the request that asks it.
use Rattle.std.specs.Prelude.{ℕ, ◌≡◌, List, map, string_bytes, Result}
use Rattle.std.specs.Global.{Vec}
use Rattle.search_model.specs.Problem.{Problem}
use Rattle.bound_tree.specs.declared.tree.TheConstants.{MOST_NODES}
use Rattle.tree_format.specs.declared.plan_line.Family.TheVariants.{Plans, Gaps}
use Rattle.plan_command.specs.declared.asked.ScenarioRequest.{ScenarioRequest}
use Rattle.plan_command.specs.declared.asked.ScenarioRequest.TheVariants as alone
use Rattle.plan_command.specs.declared.asked.JudgedRequest.{JudgedRequest}
use Rattle.plan_command.specs.declared.asked.JudgedRequest.TheVariants as judged
use Rattle.plan_command.specs.declared.asked.Asked.{Asked}
use Rattle.plan_command.specs.declared.asked.Asked.TheVariants as asked
use Rattle.plan_command.specs.declared.judge.Task.{Task}
use Rattle.plan_command.specs.declared.request.Request.{Request}
use Rattle.plan_command.specs.declared.request.Request.TheVariants.{Plan, Check, Report, Make, Drill, Convert, Gap, CheckGap, Replan, Map, Duo}
use Rattle.plan_command.specs.declared.request.TheConstants.{MOST_CLOSED}
use Rattle.plan_command.specs.declared.status.Stop.{Stop}
use Rattle.plan_command.specs.Words.{IsCrew, AreFlown, names_behind}
use Rattle.plan_command.specs.Gives.{Gives}
use Rattle.plan_command.specs.Plans.{IsPlanOf, IsUnplanned}
use Rattle.plan_command.specs.GapPlans.{IsGapOf, IsUngapped}
use Rattle.plan_command.specs.Replans.{IsReplanned, IsUnreplanned, IsMapped, IsUnmapped}
use Rattle.plan_command.specs.Duos.{IsPaired, IsUnpairedFrom}
use Rattle.plan_command.specs.Intakes.{keeping_none, keeping_plans}
use Rattle.plan_command.specs.Makes.{IsSearch}

-- with these words this request asks that of the text of a scenario alone: the names are those behind `flown`
abbrev pub Asks : List (List ℕ) → Request → ScenarioRequest → Type 0
Asks words request (alone.Plan workers nodes) = request ≡ Plan workers nodes
Asks words request (alone.Gap workers nodes) = request ≡ Gap workers nodes
Asks words request (alone.Replan workers nodes names) =
    (flown : ℕ) × (request ≡ Replan workers nodes flown) × (map string_bytes names.now ≡ names_behind flown words)
Asks words request (alone.Map names) = (flown : ℕ) × (request ≡ Map flown) × (map string_bytes names.now ≡ names_behind flown words)
Asks words request (alone.Duo workers nodes second) = request ≡ Duo workers nodes second

-- its numbers are within their limits, and there are as many names as may be flown
abbrev pub IsAskable : ScenarioRequest → Type 0
IsAskable (alone.Plan workers nodes) = IsSearch MOST_NODES workers nodes
IsAskable (alone.Gap workers nodes) = IsSearch MOST_CLOSED workers nodes
IsAskable (alone.Replan workers nodes names) = IsSearch MOST_NODES workers nodes × AreFlown (map string_bytes names.now)
IsAskable (alone.Map names) = AreFlown (map string_bytes names.now)
IsAskable (alone.Duo workers nodes second) = IsSearch MOST_NODES workers nodes

-- what it makes of a scenario, or why it makes nothing of it, unless memory ran out
abbrev pub GivesFor : ScenarioRequest → Problem → Result (Vec ℕ) Stop → Type 0
GivesFor (alone.Plan workers nodes) p made = Gives (IsPlanOf nodes p) (IsUnplanned nodes p) made
GivesFor (alone.Gap workers nodes) p made = Gives (IsGapOf nodes p) IsUngapped made
GivesFor (alone.Replan workers nodes names) p made =
    Gives (IsReplanned nodes p (map string_bytes names.now)) (IsUnreplanned nodes p (map string_bytes names.now)) made
GivesFor (alone.Map names) p made = Gives (IsMapped p (map string_bytes names.now)) (IsUnmapped p (map string_bytes names.now)) made
GivesFor (alone.Duo workers nodes second) p made = Gives (IsPaired nodes p second) (IsUnpairedFrom nodes p second) made

-- the request that asks this of a scenario and of what stands behind it
abbrev pub request_of : JudgedRequest → Request
request_of judged.Check = Check
request_of judged.CheckGap = CheckGap
request_of (judged.Report json) = Report json
request_of judged.Convert = Convert

-- and what it asks of the judge
abbrev pub task_of : JudgedRequest → Task
task_of judged.Check = keeping_none Plans
task_of judged.CheckGap = keeping_none Gaps
task_of (judged.Report json) = keeping_none Plans
task_of judged.Convert = keeping_plans

-- with these words the request asks this, within the limits of its numbers
abbrev pub IsFor : List (List ℕ) → Request → Asked → Type 0
IsFor words request (asked.Alone scenario) = Asks words request scenario × IsAskable scenario
IsFor words request (asked.Judged plan) = request ≡ request_of plan
IsFor words request (asked.Make number) = request ≡ Make number
IsFor words request (asked.Drill number workers) = (request ≡ Drill number workers) × IsCrew workers
