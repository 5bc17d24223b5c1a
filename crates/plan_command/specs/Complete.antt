-- When a run answers its input, or refuses it.
use Rattle.std.specs.Prelude.{◌≡◌, ℕ, ◌<◌, ◌≤◌, ◌⊎◌, List, Some, length}
use Rattle.byte_ports.specs.Causes.{Rose}
use Rattle.search_model.specs.Problem.{Problem}
use Rattle.scenario_text.specs.Scenarios.{IsTextOf}
use Rattle.bound_tree.specs.declared.plan.Plan.{Plan as APlan}
use Rattle.bound_tree.specs.declared.gap.GapPlan.{GapPlan}
use Rattle.bound_tree.specs.Accepts.{Accepts}
use Rattle.bound_tree.specs.Gaps.{GapAccepts}
use Rattle.tree_checker.specs.declared.verdict.RejectAt.{RejectAt}
use Rattle.tree_checker.specs.declared.gap_verdict.GapRejectAt.{GapRejectAt}
use Rattle.plan_command.specs.declared.request.Request.{Request}
use Rattle.plan_command.specs.declared.request.Request.TheVariants.{Plan, Gap, Replan, Map, Duo}
use Rattle.plan_command.specs.declared.status.Status.{Status}
use Rattle.plan_command.specs.declared.status.Status.TheVariants.{NoMemory}
use Rattle.plan_command.specs.declared.status.Refusal.{Refusal}
use Rattle.plan_command.specs.declared.status.Refusal.TheVariants.{TooManyNodes}
use Rattle.plan_command.specs.Words.{Spells, Family, of_plan, of_gap, family_of, limit_of, names_behind}
use Rattle.plan_command.specs.Lines.{refused_status}
use Rattle.plan_command.specs.Plans.{HasFewLive}
use Rattle.plan_command.specs.Flown.{IsFlown}
use Rattle.plan_command.specs.Replans.{ForcesNames}
use Rattle.plan_command.specs.Duos.{PairsNamed}
use Rattle.plan_command.specs.Commands.{Answers, Refuses, IsInput, IsGapInput, IsRejected, IsGapRejected}
use Rattle.plan_command.specs.Inputs.{Course}
use Rattle.plan_command.specs.Run.{Call}

-- the request reads an input, and this one is within its limit
abbrev pub IsWithin : Request → List ℕ → Type 0
IsWithin request input = (limit : ℕ) × (limit_of request ≡ Some limit) × (length input ≤ limit)

-- or it is longer
abbrev pub IsLonger : Request → List ℕ → Type 0
IsLonger request input = (limit : ℕ) × (limit_of request ≡ Some limit) × (limit < length input)

-- words of a request, and a source that tells this input and doesn't fail
pub record IsHeard {Went : Course → Type 0} (c : Call Went) (request : Request) (input : List ℕ) : Type 0 where
  pub spelled : Spells c.words request
  pub told : c.before.source.left ≡ Some input
  pub read : Rose c.before.source.faults c.after.source.faults → ⊥

-- the same, where the input is within the limit and the sink doesn't fail either
pub record IsUndisturbed {Went : Course → Type 0} (c : Call Went) (request : Request) (input : List ℕ) : Type 0 where
  pub heard : IsHeard c request input
  pub within : IsWithin request input
  pub write : Rose c.before.write_faults c.after.write_faults → ⊥

-- what the request plans has no more live prefixes under its opening than its limit: the scenario; one that forces the
-- prefix of its names; or a product for its second start. One is enough, since all of them are the same search. A map has to
-- be of a prefix that is flown, and of a gap plan nothing is asked
abbrev pub IsMakable : List (List ℕ) → Request → Problem → Type 0
IsMakable words (Plan workers nodes) p = HasFewLive p nodes
IsMakable words (Gap workers nodes) p = Unit {0}
IsMakable words (Replan workers nodes flown) p = (q : Problem) × ForcesNames p (names_behind flown words) q × HasFewLive q nodes
IsMakable words (Map flown) p = (prefix : List ℕ) × IsFlown p (names_behind flown words) prefix
IsMakable words (Duo workers nodes second) p = (q : Problem) × PairsNamed p second q × HasFewLive q nodes
IsMakable words _ p = ⊥

-- the input is the text of such a scenario
abbrev pub IsFeasible : List (List ℕ) → Request → List ℕ → Type 0
IsFeasible words request input = (p : Problem) × IsTextOf p input × IsMakable words request p

-- a request of this family reads a scenario and a plan, or a gap plan, that is accepted
abbrev pub HasAccepted : Family → List ℕ → Type 0
HasAccepted of_plan input = (p : Problem) × (plan : APlan) × IsInput input p plan × Accepts p plan
HasAccepted of_gap input = (p : Problem) × (plan : GapPlan) × IsGapInput input p plan × GapAccepts p plan
HasAccepted _ input = ⊥

-- or one that isn't accepted
abbrev pub HasRejected : Family → List ℕ → Type 0
HasRejected of_plan input = (at : RejectAt) × IsRejected input at
HasRejected of_gap input = (at : GapRejectAt) × IsGapRejected input at
HasRejected _ input = ⊥

-- `check`, `report` or `convert` of a plan that is accepted, or `checkgap` of a gap plan that is
abbrev pub IsAcceptable : Request → List ℕ → Type 0
IsAcceptable request input = HasAccepted (family_of request) input

-- or of one that isn't
abbrev pub IsRejectable : Request → List ℕ → Type 0
IsRejectable request input = HasRejected (family_of request) input

-- this status, unless memory ran out
abbrev pub IsUnlessNoMemory : Status → Status → Type 0
IsUnlessNoMemory due status = (status ≡ due) ⊎ (status ≡ NoMemory)

-- the status is that of the request's answer to the input or of its refusal, or memory ran out
abbrev pub IsDue : List (List ℕ) → Request → List ℕ → Status → Type 0
IsDue words request input status =
    ((text : List ℕ) × Answers words request input status text)
    ⊎ (((refusal : Refusal) × Refuses words request input refusal × (status ≡ refused_status refusal)) ⊎ (status ≡ NoMemory))

-- a refusal by the input's text alone, which comes wherever it is due
abbrev pub IsByText : Refusal → Type 0
IsByText (TooManyNodes limit) = ⊥
IsByText _ = Unit {0}
