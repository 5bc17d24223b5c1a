-- What is kept of an input that holds a scenario and a plan or gap plan, while it is read in pieces. The task says which of
-- the two is read, by its family, and whether the records are kept.
use Rattle.std.specs.Prelude.{◌≡◌, ◌↔◌, ◌+◌, ◌<◌, ◌≤◌, ◌++◌, ◌∷◌, [], ℕ, Bool, List, Option, Some, None, true, false, map, length, take, Result, Ok, Err, IsTrue}
use Rattle.search_model.specs.Problem.{Problem}
use Rattle.scenario_text.specs.declared.kind.TextFault.{TextFault}
use Rattle.scenario_text.specs.Reading.{front_of}
use Rattle.scenario_text.specs.Laws.{EndsWithEnd}
use Rattle.bound_tree.specs.declared.node.TreeNode.{TreeNode}
use Rattle.bound_tree.specs.declared.plan.Plan.{Plan}
use Rattle.bound_tree.specs.declared.gap.GapNode.{GapNode}
use Rattle.bound_tree.specs.declared.gap.GapPlan.{GapPlan}
use Rattle.bound_tree.specs.Gaps.{shape_of, GapAccepts}
use Rattle.tree_format.specs.declared.kind.PlanFault.{PlanFault}
use Rattle.tree_format.specs.declared.plan_item.PlanItem.{PlanItem}
use Rattle.tree_format.specs.declared.plan_item.PlanItem.TheVariants as items
use Rattle.tree_format.specs.declared.stop.PlanStop.{PlanStop}
use Rattle.tree_format.specs.declared.stop.PlanStop.TheVariants as halts
use Rattle.tree_format.specs.Feeding.{HasRead}
use Rattle.tree_format.specs.declared.plan_line.Family.{Family}
use Rattle.tree_format.specs.declared.plan_line.Family.TheVariants.{Plans}
use Rattle.tree_checker.specs.declared.gap_verdict.GapVerdict.{GapVerdict}
use Rattle.tree_checker.specs.declared.gap_verdict.GapVerdict.TheVariants as verdicts
use Rattle.tree_checker.specs.GapReasons.{gap_verdict_of}
use Rattle.tree_checker.specs.Progress.{Progress, gap_reason_if, IsUnderWay, IsMadeFor}
use Rattle.plan_command.specs.declared.hearing.Head.{Head}
use Rattle.plan_command.specs.declared.judge.Task.{Task}
use Rattle.plan_command.specs.declared.judge.Judge.{Judge}
use Rattle.plan_command.specs.declared.intake.Intake.{Intake}
use Rattle.plan_command.specs.declared.intake.Intake.TheVariants as intakes
use Rattle.plan_command.specs.declared.intake.Judgement.{Judgement}
use Rattle.plan_command.specs.declared.status.Stop.{Stop}
use Rattle.plan_command.specs.declared.status.Stop.TheVariants as stops
use Rattle.plan_command.specs.declared.status.Refusal.TheVariants as refusals
use Rattle.plan_command.specs.Spaces.{SkipsSpaces}
use Rattle.plan_command.specs.Plans.{BeginsWith, HasFaultIn}
use Rattle.plan_command.specs.Families.{IsRestOf, IsInputOf, reason_against}
use Rattle.plan_command.specs.Commands.{HasBadText}

-- no front of the bytes ends with a line `end`
abbrev pub HasNoEnd : List ℕ → Type 0
HasNoEnd bytes = (n : ℕ) → n ≤ length bytes → EndsWithEnd (take n bytes) → ⊥

-- behind the old bytes, no front of a piece with fewer bytes than so many, and one at least, ends with a line `end`
abbrev pub HasNoEndBefore : List ℕ → List ℕ → ℕ → Type 0
HasNoEndBefore old piece most = (n : ℕ) → n < most → 0 < n → EndsWithEnd (old ++ take n piece) → ⊥

-- bytes were added to the lines of a scenario: all of a piece, in which no line `end` ends, or those up to the first that does
abbrev pub HasGathered : List ℕ → List ℕ → Option ℕ → List ℕ → Type 0
HasGathered old piece None new = (new ≡ old ++ piece) × HasNoEndBefore old piece (length piece + 1)
HasGathered old piece (Some used) new = (used ≤ length piece) × (new ≡ old ++ take used piece) × EndsWithEnd new × HasNoEndBefore old piece used

-- the nodes among what was told
abbrev pub nodes_in : List PlanItem → List GapNode
nodes_in [] = []
nodes_in (items.Head s w c b n ∷ more) = nodes_in more
nodes_in (items.Node r ∷ more) = r ∷ nodes_in more
nodes_in (items.End ∷ more) = nodes_in more

-- of nodes these are kept: all, as records, or none
abbrev pub records_kept : Bool → List GapNode → List TreeNode
records_kept true nodes = map shape_of nodes
records_kept false nodes = []

-- what is kept of a plan or gap plan: its head, and of its records those that are kept
abbrev pub kept_of : Bool → GapPlan → Plan
kept_of keeps plan = record { standing = plan.standing; weight = plan.weight; tree = records_kept keeps plan.nodes }

-- and what a judge has kept
abbrev pub kept_by : Judge → Plan
kept_by judge = record { standing = judge.head.standing; weight = judge.head.weight; tree = judge.records.items }

-- a task that keeps no records, and the one that keeps those of a plan
abbrev pub keeping_none : Family → Task
keeping_none family = record { family = family; keeps = false }

abbrev pub keeping_plans : Task
keeping_plans = record { family = Plans; keeps = true }

-- where a head was told first, it is this one, and the checker leads to the first reason against the plan or gap plan of that
-- head and of the nodes so far, whatever nodes follow
abbrev pub LeadsToReason : Family → Problem → List PlanItem → Head → Progress → Type 0
LeadsToReason family p (items.Head s w c b n ∷ more) head checker =
    (head ≡ record { standing = s; weight = w; ceiling = c; numbers = b })
    × ((later : List GapNode) → gap_reason_if p checker c later ≡ reason_against family p (record { standing = s; weight = w; ceiling = c; numbers = b; nodes = nodes_in more ++ later }))
LeadsToReason family p told head checker = Unit {0}

-- a checker that was told these items, and the head among them
pub record HasHeard (family : Family) (p : Problem) (told : List PlanItem) (head : Head) (checker : Progress) : Type 0 where
  pub under_way : IsUnderWay p checker
  pub made_for : IsMadeFor p checker
  pub line : checker.line ≤ 6 + length (nodes_in told)
  pub reason : LeadsToReason family p told head checker

-- a head is told first of all
abbrev pub IsNextItem : List PlanItem → PlanItem → Type 0
IsNextItem told (items.Head s w c b n) = told ≡ []
IsNextItem told (items.Node r) = Unit {0}
IsNextItem told items.End = Unit {0}

-- a judge with this task that took this text: its feed has read it, its checker was told what it says, and of the nodes it
-- has kept what the task says
pub record HasTakenText (task : Task) (text : List ℕ) (judge : Judge) : Type 0 where
  pub same : judge.task ≡ task
  pub told : List PlanItem
  pub read : HasRead task.family judge.sc text told judge.feed
  pub heard : HasHeard task.family judge.sc told judge.head judge.checker
  pub kept : judge.records.items ≡ records_kept task.keeps (nodes_in told)

-- a judge that took these bytes behind a scenario: blanks, and then the text
pub record HasTakenRest (task : Task) (rest : List ℕ) (judge : Judge) : Type 0 where
  pub text : List ℕ
  pub skips : SkipsSpaces rest text
  pub none : judge.begun ≡ false → text ≡ []
  pub some : judge.begun ≡ true → 0 < length text
  pub taken : HasTakenText task text judge

-- memory ran out only where records are kept
abbrev pub KeepsWhereShort : Bool → PlanStop → Type 0
KeepsWhereShort keeps (halts.Fault fault) = Unit {0}
KeepsWhereShort keeps halts.NoMemory = IsTrue keeps

-- the first reason against a plan or gap plan, or that it is accepted
pub record IsVerdictOn (family : Family) (p : Problem) (plan : GapPlan) (verdict : GapVerdict) : Type 0 where
  pub exact : verdict ≡ gap_verdict_of (reason_against family p plan)
  pub accepted : (verdict ≡ verdicts.Accepted) ↔ GapAccepts p plan

-- behind the scenario it follows, and this is its verdict
abbrev pub IsJudged : Family → Problem → List ℕ → GapPlan → GapVerdict → Type 0
IsJudged family p rest plan verdict = IsRestOf family p rest plan × IsVerdictOn family p plan verdict

-- the verdict on the plan or gap plan that these bytes are, of which this was kept, or what is wrong with them
abbrev pub TellsRest : Task → Problem → Plan → List ℕ → Result GapVerdict PlanFault → Type 0
TellsRest task p kept rest (Ok verdict) = (plan : GapPlan) × IsJudged task.family p rest plan verdict × (kept ≡ kept_of task.keeps plan)
TellsRest task p kept rest (Err fault) = HasFaultIn task.family p rest fault

-- what an input lacks: a fault of the scenario's text, or one of the plan's, unless memory ran out
abbrev pub LacksBy : (TextFault → Type 0) → (PlanFault → Type 0) → Stop → Type 0
LacksBy Front Behind (stops.Refused (refusals.BadScenario fault)) = Front fault
LacksBy Front Behind (stops.Refused (refusals.BadPlan fault)) = Behind fault
LacksBy Front Behind stops.NoMemory = Unit {0}
LacksBy Front Behind _ = ⊥

-- the input is a scenario and a plan or gap plan, and this was kept of it and is the verdict on it, or what the input lacks
abbrev pub JudgesAs : Task → List ℕ → Result Judgement Stop → Type 0
JudgesAs task input (Ok judged) =
    (plan : GapPlan) × IsInputOf task.family input judged.sc plan × IsVerdictOn task.family judged.sc plan judged.verdict × (judged.plan ≡ kept_of task.keeps plan)
JudgesAs task input (Err stop) = LacksBy (λ fault. front_of input ≡ Err fault) (HasBadText task.family input) stop

-- the same, where no records are kept
abbrev pub Judges : Family → List ℕ → Result Judgement Stop → Type 0
Judges family input judged = JudgesAs (keeping_none family) input judged

-- the input begins with the scenario of a judge, which took the rest of it
pub record IsBehind (task : Task) (input : List ℕ) (judge : Judge) : Type 0 where
  pub rest : List ℕ
  pub begins : BeginsWith judge.sc input rest
  pub taken : HasTakenRest task rest judge

-- the input begins with a scenario, and what follows has this fault, and so it has whatever follows it
pub record LacksText (family : Family) (input : List ℕ) (fault : PlanFault) : Type 0 where
  pub problem : Problem
  pub rest : List ℕ
  pub begins : BeginsWith problem input rest
  pub faulty : (more : List ℕ) → HasFaultIn family problem (rest ++ more) fault

-- the judge behind a scenario took these bytes, or they have this fault, and so they have whatever follows
abbrev pub JudgesRest : Task → Problem → List ℕ → Result Judge Stop → Type 0
JudgesRest task p rest (Ok judge) = (judge.sc ≡ p) × HasTakenRest task rest judge
JudgesRest task p rest (Err stop) = LacksBy (λ fault. ⊥) (λ fault. (more : List ℕ) → HasFaultIn task.family p (rest ++ more) fault) stop

-- the judge behind the scenario of the input, or what the input lacks
abbrev pub JudgesFront : Task → List ℕ → Result Judge Stop → Type 0
JudgesFront task input (Ok judge) = IsBehind task input judge
JudgesFront task input (Err stop) = LacksBy (λ fault. front_of input ≡ Err fault) (LacksText task.family input) stop

-- whatever follows these bytes, the input lacks this
abbrev pub Lacks : Task → List ℕ → Stop → Type 0
Lacks task bytes stop =
    LacksBy (λ fault. (more : List ℕ) → front_of (bytes ++ more) ≡ Err fault) (λ fault. (more : List ℕ) → HasBadText task.family (bytes ++ more) fault) stop

-- whatever follows these bytes, they begin with the scenario of a judge, which took the rest of them
pub record IsBehindAll (task : Task) (bytes : List ℕ) (judge : Judge) : Type 0 where
  pub rest : List ℕ
  pub begins : (more : List ℕ) → BeginsWith judge.sc (bytes ++ more) (rest ++ more)
  pub taken : HasTakenRest task rest judge

-- these bytes were taken of a scenario and the text of the task; they are kept only while none of their fronts ends with a
-- line `end`, so never past the first
abbrev pub HasTaken : Task → List ℕ → Intake → Type 0
HasTaken task bytes (intakes.Scenario alloc due text) = (due ≡ task) × (text.items ≡ bytes) × HasNoEnd bytes
HasTaken task bytes (intakes.Plan judge) = IsBehindAll task bytes judge
HasTaken task bytes (intakes.Stopped stop) = Lacks task bytes stop

-- what stops a run where this stops the reading of a plan or gap plan
abbrev pub stopped_by : PlanStop → Stop
stopped_by (halts.Fault fault) = stops.Refused (refusals.BadPlan fault)
stopped_by halts.NoMemory = stops.NoMemory

-- a judge took a piece more, or the piece has a fault, and so it has whatever follows, unless memory ran out
abbrev pub GoesOn : Task → Judge → List ℕ → Result Judge Stop → Type 0
GoesOn task judge piece (Ok new) =
    (new.sc ≡ judge.sc) × ((rest : List ℕ) → HasTakenRest task rest judge → HasTakenRest task (rest ++ piece) new)
GoesOn task judge piece (Err stop) =
    LacksBy (λ fault. ⊥) (λ fault. (rest more : List ℕ) → HasTakenRest task rest judge → HasFaultIn task.family judge.sc (rest ++ piece ++ more) fault) stop

-- an intake that goes on by a judge, or stops
abbrev pub intake_by : Result Judge Stop → Intake
intake_by (Ok judge) = intakes.Plan judge
intake_by (Err stop) = intakes.Stopped stop

-- a piece was added to the lines of a scenario, which didn't end, or it was taken where these ended
abbrev pub GathersOn : Task → List ℕ → List ℕ → List ℕ → Option Intake → Type 0
GathersOn task old piece new None = (new ≡ old ++ piece) × HasNoEndBefore old piece (length piece + 1)
GathersOn task old piece new (Some intake) = HasTaken task (old ++ piece) intake

-- an intake took these bytes, or the one that it becomes
abbrev pub Becomes : Task → List ℕ → Intake → Option Intake → Type 0
Becomes task bytes intake None = HasTaken task bytes intake
Becomes task bytes intake (Some next) = HasTaken task bytes next
