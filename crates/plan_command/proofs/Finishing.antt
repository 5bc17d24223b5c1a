-- What is due to a scenario with few live prefixes, and to a plan that is accepted or isn't.
use Rattle.std.proofs.Common.{ℕ, ◌≡◌, ◌⊎◌, List, Option, inl, inr, refl, sym, ap, subst, ◌∙◌}
use Rattle.search_model.specs.Problem.{Problem, IsProblem}
use Rattle.search_model.specs.Order.{standing_of}
use Rattle.scenario_text.specs.Scenarios.{IsTextOf}
use Rattle.bound_tree.specs.declared.plan.Plan.{Plan as APlan}
use Rattle.bound_tree.specs.declared.gap.GapPlan.{GapPlan}
use Rattle.bound_tree.specs.Accepts.{Accepts}
use Rattle.bound_tree.specs.Gaps.{GapAccepts}
use Rattle.bound_tree.specs.Close.{HasMoreLive}
use Rattle.opening_path.proofs.OneOpening.{one_opening}
use Rattle.plan_command.specs.declared.request.Request.{Request}
use Rattle.plan_command.specs.declared.request.Request.TheVariants.{Plan, Check, Report, Make, Drill, Convert, Gap, CheckGap, Replan, Map, Duo}
use Rattle.plan_command.specs.declared.status.Status.{Status}
use Rattle.plan_command.specs.declared.status.Status.TheVariants as statuses
use Rattle.plan_command.specs.declared.status.Refusal.{Refusal}
use Rattle.plan_command.specs.Words.{Family, of_scenario, of_plan, of_gap, of_nothing, family_of, names_behind}
use Rattle.plan_command.specs.Lines.{rejection_of, gap_rejection_of, refused_status}
use Rattle.plan_command.specs.Plans.{IsPlanRest, IsTooMany, HasFewLive}
use Rattle.plan_command.specs.Commands.{IsUnmade, IsInput, IsGapInput, TellsWhether, TellsPlan, AnswersAs, RefusesAs}
use Rattle.plan_command.specs.Complete.{IsMakable, IsFeasible, HasAccepted, HasRejected, IsAcceptable, IsRejectable, IsUnlessNoMemory, IsDue}
use Rattle.tree_checker.specs.Reasons.{first_reason}
use Rattle.tree_checker.specs.GapReasons.{gap_reason}
use Rattle.plan_command.proofs.Apart.{same_scenario}
use Rattle.plan_command.proofs.OneReason.{flown_isnt_refused}
use Rattle.plan_command.proofs.OneMade.{forced_by_names_is_one, paired_by_name_is_one, few_live_stays}
use Rattle.plan_command.proofs.Unmade.{why_unplanned, why_unreplanned, why_unmapped, why_unpaired, forces_or_not, pairs_or_not}
use Rattle.plan_command.proofs.Exclusive.{read_or_not, read_alike, gap_alike, no_front_fault, no_plan_fault, not_rejected, FaultsAlone, faults_alone, FaultsBoth, faults_both, faults_gap, gap_or_not}

-- what is due to a request, by its family
abbrev DueAs : Family → List (List ℕ) → Request → List ℕ → Status → Type 0
DueAs family words request input status =
    ((text : List ℕ) × AnswersAs family words request input status text)
    ⊎ (((refusal : Refusal) × RefusesAs family words request input refusal × (status ≡ refused_status refusal)) ⊎ (status ≡ statuses.NoMemory))

-- a problem hasn't few live prefixes and too many
few_or_many : (p : Problem) (limit : ℕ) → IsProblem p → HasFewLive p limit → IsTooMany p limit → ⊥
few_or_many p limit sound (opening, opens, few) (start, is, more) =
    let only = (one_opening p sound).2 in
    let same : start ≡ opening = only start is ∙ sym (only opening opens) in
    few (subst (λ z. HasMoreLive p (standing_of p z) limit) same more)

-- what is makable isn't refused
makable_or_not : (words : List (List ℕ)) (request : Request) (p : Problem) (refusal : Refusal) → IsProblem p → IsMakable words request p → IsUnmade words request p refusal → ⊥
makable_or_not words (Plan workers nodes) p refusal sound few unmade = few_or_many p nodes sound few (why_unplanned nodes p refusal unmade).2.1
makable_or_not words (Gap workers nodes) p refusal sound makable unmade = unmade
makable_or_not words (Replan workers nodes flown) p refusal sound (q, forces, few) unmade =
    elim (why_unreplanned nodes p (names_behind flown words) refusal unmade) [
      | inl (why, same, bad) ↦ forces_or_not p q (names_behind flown words) why sound forces bad
      | inr (limit, same, (r, also, (at, many))) ↦
          let one = forced_by_names_is_one p q r (names_behind flown words) sound forces also in
          few_or_many r nodes also.0 (few_live_stays q r nodes forces.0 also.0 one few) many
    ]
makable_or_not words (Map flown) p refusal sound (prefix, is) unmade =
    let why = why_unmapped p (names_behind flown words) refusal unmade in flown_isnt_refused p (names_behind flown words) prefix why.0 sound is why.2
makable_or_not words (Duo workers nodes second) p refusal sound (q, pairs, few) unmade =
    elim (why_unpaired nodes p second refusal unmade) [
      | inl (why, same, bad) ↦ pairs_or_not p q second why sound pairs bad
      | inr (limit, same, (r, also, (at, many))) ↦
          let one = paired_by_name_is_one p q r second sound pairs also in
          few_or_many r nodes also.0 (few_live_stays q r nodes pairs.0 also.0 one few) many
    ]
makable_or_not words Check p refusal sound makable unmade = makable
makable_or_not words CheckGap p refusal sound makable unmade = makable
makable_or_not words (Report json) p refusal sound makable unmade = makable
makable_or_not words (Make number) p refusal sound makable unmade = makable
makable_or_not words (Drill number workers) p refusal sound makable unmade = makable
makable_or_not words Convert p refusal sound makable unmade = makable

-- it is made of a scenario that is read alone
makable_alone : (words : List (List ℕ)) (request : Request) (p : Problem) → IsMakable words request p → family_of request ≡ of_scenario
makable_alone words (Plan workers nodes) p makable = refl
makable_alone words (Gap workers nodes) p makable = refl
makable_alone words (Replan workers nodes flown) p makable = refl
makable_alone words (Map flown) p makable = refl
makable_alone words (Duo workers nodes second) p makable = refl
makable_alone words Check p makable = absurd makable
makable_alone words CheckGap p makable = absurd makable
makable_alone words (Report json) p makable = absurd makable
makable_alone words (Make number) p makable = absurd makable
makable_alone words (Drill number workers) p makable = absurd makable
makable_alone words Convert p makable = absurd makable

module _ (words : List (List ℕ)) (request : Request) (input : List ℕ) where
  feasible_or_not : (p : Problem) (refusal : Refusal) → IsTextOf p input → IsMakable words request p → FaultsAlone words request input refusal → ⊥
  feasible_or_not p refusal is makable (inl (fault, same, bad)) = read_or_not _ is.front fault is.read bad
  feasible_or_not p refusal is makable (inr (q, other, unmade)) =
      makable_or_not words request p refusal is.says.sound makable (subst (λ (z : Problem). IsUnmade words request z refusal) (same_scenario q p input other is) unmade)

  feasible_as : (p : Problem) (status : Status) → IsTextOf p input → IsMakable words request p → DueAs of_scenario words request input status → IsUnlessNoMemory statuses.Done status
  feasible_as p status is makable (inl (text, (done, answers))) = inl done
  feasible_as p status is makable (inr (inl (refusal, refuses, same))) = absurd (feasible_or_not p refusal is makable (faults_alone words request input refusal refuses))
  feasible_as p status is makable (inr (inr none)) = inr none

  -- what is makable is made, unless memory runs out
  pub feasible_due : (status : Status) → IsFeasible words request input → IsDue words request input status → IsUnlessNoMemory statuses.Done status
  feasible_due status (p, is, makable) due =
      feasible_as p status is makable (subst (λ (f : Family). DueAs f words request input status) (makable_alone words request p makable) due)

-- a verdict on what is accepted has the status Done, and one on what isn't has the status Rejected
module _ {W : Type 0} (Accepted : Type 0) (reason : Option W) (line : W → List ℕ) (status : Status) (text : List ℕ) where
  told_accepted : Accepted → TellsWhether Accepted reason line status text → status ≡ statuses.Done
  told_accepted accepts (inl taken) = taken.1
  told_accepted accepts (inr turned) = absurd (turned.0 accepts)

  told_rejected : (Accepted → ⊥) → TellsWhether Accepted reason line status text → status ≡ statuses.Rejected
  told_rejected turned (inl taken) = absurd (turned taken.0)
  told_rejected turned (inr more) = more.1

-- of an accepted plan all is told with the status Done, and of another nothing but a verdict
accepted_done : (request : Request) (p : Problem) (plan : APlan) (status : Status) (text : List ℕ) → Accepts p plan → TellsPlan request p plan status text → status ≡ statuses.Done
accepted_done Check p plan status text accepts tells = told_accepted (Accepts p plan) (first_reason p plan) rejection_of status text accepts tells
accepted_done (Report json) p plan status text accepts tells = tells.0
accepted_done Convert p plan status text accepts tells = tells.0
accepted_done (Plan workers nodes) p plan status text accepts tells = absurd tells
accepted_done (Make number) p plan status text accepts tells = absurd tells
accepted_done (Drill number workers) p plan status text accepts tells = absurd tells
accepted_done (Gap workers nodes) p plan status text accepts tells = absurd tells
accepted_done CheckGap p plan status text accepts tells = absurd tells
accepted_done (Replan workers nodes flown) p plan status text accepts tells = absurd tells
accepted_done (Map flown) p plan status text accepts tells = absurd tells
accepted_done (Duo workers nodes second) p plan status text accepts tells = absurd tells

turned_rejected : (request : Request) (p : Problem) (plan : APlan) (status : Status) (text : List ℕ) → (Accepts p plan → ⊥) → TellsPlan request p plan status text → status ≡ statuses.Rejected
turned_rejected Check p plan status text turned tells = told_rejected (Accepts p plan) (first_reason p plan) rejection_of status text turned tells
turned_rejected (Report json) p plan status text turned tells = absurd (turned tells.1)
turned_rejected Convert p plan status text turned tells = absurd (turned tells.1)
turned_rejected (Plan workers nodes) p plan status text turned tells = absurd tells
turned_rejected (Make number) p plan status text turned tells = absurd tells
turned_rejected (Drill number workers) p plan status text turned tells = absurd tells
turned_rejected (Gap workers nodes) p plan status text turned tells = absurd tells
turned_rejected CheckGap p plan status text turned tells = absurd tells
turned_rejected (Replan workers nodes flown) p plan status text turned tells = absurd tells
turned_rejected (Map flown) p plan status text turned tells = absurd tells
turned_rejected (Duo workers nodes second) p plan status text turned tells = absurd tells

module _ (words : List (List ℕ)) (request : Request) (input : List ℕ) where
  -- what is told of the plan of an input is told of this reading of it
  tells_here : (p q : Problem) (plan other : APlan) (status : Status) (text : List ℕ) → IsInput input p plan → IsInput input q other → TellsPlan request q other status text → TellsPlan request p plan status text
  tells_here p q plan other status text is also tells = read_alike input q p other plan (λ z a. TellsPlan request z a status text) also is tells

  accepted_or_not : (p : Problem) (plan : APlan) (refusal : Refusal) → IsInput input p plan → Accepts p plan → FaultsBoth request input refusal → ⊥
  accepted_or_not p plan refusal is accepts (inl (fault, same, bad)) = no_front_fault IsPlanRest input p plan is fault bad
  accepted_or_not p plan refusal is accepts (inr (inl (fault, same, bad))) = no_plan_fault input p plan fault is bad
  accepted_or_not p plan refusal is accepts (inr (inr (at, same, (needs, rejected)))) = not_rejected input p plan at is accepts rejected

  accepts_as : (p : Problem) (plan : APlan) (status : Status) → IsInput input p plan → Accepts p plan → DueAs of_plan words request input status → IsUnlessNoMemory statuses.Done status
  accepts_as p plan status is accepts (inl (text, (q, other, also, tells))) = inl (accepted_done request p plan status text accepts (tells_here p q plan other status text is also tells))
  accepts_as p plan status is accepts (inr (inl (refusal, refuses, same))) = absurd (accepted_or_not p plan refusal is accepts (faults_both words request input refusal refuses))
  accepts_as p plan status is accepts (inr (inr none)) = inr none

  -- an accepted plan is told to be, reported, or written anew, unless memory runs out
  pub accepted_due : (p : Problem) (plan : APlan) (status : Status) → family_of request ≡ of_plan → IsInput input p plan → Accepts p plan → IsDue words request input status → IsUnlessNoMemory statuses.Done status
  accepted_due p plan status judges is accepts due = accepts_as p plan status is accepts (subst (λ (f : Family). DueAs f words request input status) judges due)

  -- and an accepted gap plan is told to be
  gap_accepts_as : (p : Problem) (plan : GapPlan) (status : Status) → IsGapInput input p plan → GapAccepts p plan → DueAs of_gap words request input status → IsUnlessNoMemory statuses.Done status
  gap_accepts_as p plan status is accepts (inl (text, (q, other, also, tells))) =
      inl (told_accepted (GapAccepts q other) (gap_reason q other) gap_rejection_of status text (gap_alike input p q plan other (λ z a. GapAccepts z a) is also accepts) tells)
  gap_accepts_as p plan status is accepts (inr (inl (refusal, refuses, same))) = absurd (gap_or_not words request input p plan refusal is (faults_gap words request input refusal refuses))
  gap_accepts_as p plan status is accepts (inr (inr none)) = inr none

  pub gap_accepted_due : (p : Problem) (plan : GapPlan) (status : Status) → family_of request ≡ of_gap → IsGapInput input p plan → GapAccepts p plan → IsDue words request input status → IsUnlessNoMemory statuses.Done status
  gap_accepted_due p plan status judges is accepts due = gap_accepts_as p plan status is accepts (subst (λ (f : Family). DueAs f words request input status) judges due)

  accepts_by : (family : Family) (status : Status) → HasAccepted family input → DueAs family words request input status → IsUnlessNoMemory statuses.Done status
  accepts_by of_plan status (p, plan, is, accepts) due = accepts_as p plan status is accepts due
  accepts_by of_gap status (p, plan, is, accepts) due = gap_accepts_as p plan status is accepts due
  accepts_by of_scenario status none due = absurd none
  accepts_by of_nothing status none due = absurd none

  pub judge_accepts : (status : Status) → IsAcceptable request input → IsDue words request input status → IsUnlessNoMemory statuses.Done status
  judge_accepts status good due = accepts_by (family_of request) status good due

  -- a plan that isn't accepted is refused for that alone
  turned_or_not : (p : Problem) (plan : APlan) (status : Status) (refusal : Refusal) → IsInput input p plan → status ≡ refused_status refusal → FaultsBoth request input refusal → status ≡ statuses.Rejected
  turned_or_not p plan status refusal is told (inl (fault, same, bad)) = absurd (no_front_fault IsPlanRest input p plan is fault bad)
  turned_or_not p plan status refusal is told (inr (inl (fault, same, bad))) = absurd (no_plan_fault input p plan fault is bad)
  turned_or_not p plan status refusal is told (inr (inr (at, same, turned))) = told ∙ ap refused_status same

  rejects_as : (p : Problem) (plan : APlan) (status : Status) → IsInput input p plan → (Accepts p plan → ⊥) → DueAs of_plan words request input status → IsUnlessNoMemory statuses.Rejected status
  rejects_as p plan status is turned (inl (text, (q, other, also, tells))) = inl (turned_rejected request p plan status text turned (tells_here p q plan other status text is also tells))
  rejects_as p plan status is turned (inr (inl (refusal, refuses, same))) = inl (turned_or_not p plan status refusal is same (faults_both words request input refusal refuses))
  rejects_as p plan status is turned (inr (inr none)) = inr none

  -- nor is a gap plan that isn't, of which the verdict is told
  gap_rejects_as : (p : Problem) (plan : GapPlan) (status : Status) → IsGapInput input p plan → (GapAccepts p plan → ⊥) → DueAs of_gap words request input status → IsUnlessNoMemory statuses.Rejected status
  gap_rejects_as p plan status is turned (inl (text, (q, other, also, tells))) =
      inl (told_rejected (GapAccepts q other) (gap_reason q other) gap_rejection_of status text (gap_alike input p q plan other (λ z a. GapAccepts z a → ⊥) is also turned) tells)
  gap_rejects_as p plan status is turned (inr (inl (refusal, refuses, same))) = absurd (gap_or_not words request input p plan refusal is (faults_gap words request input refusal refuses))
  gap_rejects_as p plan status is turned (inr (inr none)) = inr none

  rejects_by : (family : Family) (status : Status) → HasRejected family input → DueAs family words request input status → IsUnlessNoMemory statuses.Rejected status
  rejects_by of_plan status (at, (p, plan, is, turned, reason)) due = rejects_as p plan status is turned due
  rejects_by of_gap status (at, (p, plan, is, turned, reason)) due = gap_rejects_as p plan status is turned due
  rejects_by of_scenario status none due = absurd none
  rejects_by of_nothing status none due = absurd none

  pub judge_rejects : (status : Status) → IsRejectable request input → IsDue words request input status → IsUnlessNoMemory statuses.Rejected status
  judge_rejects status bad due = rejects_by (family_of request) status bad due
