-- An input is answered or refused, and refused in one way.
use Rattle.std.proofs.Common.{ℕ, ◌≡◌, ◌⊎◌, List, Result, Ok, Err, Some, inl, inr, refl, sym, ap, ◌∙◌, subst}
use Rattle.search_model.specs.Problem.{Problem, IsProblem}
use Rattle.scenario_text.specs.declared.kind.TextFault.{TextFault}
use Rattle.scenario_text.specs.Reading.{Front, front_of, alone_of}
use Rattle.scenario_text.specs.Scenarios.{IsTextOf}
use Rattle.bound_tree.specs.declared.plan.Plan.{Plan as APlan}
use Rattle.bound_tree.specs.declared.gap.GapPlan.{GapPlan}
use Rattle.bound_tree.specs.Accepts.{Accepts}
use Rattle.tree_checker.specs.declared.verdict.RejectAt.{RejectAt}
use Rattle.tree_checker.specs.Reasons.{first_reason}
use Rattle.tree_format.specs.declared.kind.PlanFault.{PlanFault}
use Rattle.tree_format.specs.declared.plan_line.Family.{Family as TextFamily}
use Rattle.tree_format.specs.declared.plan_line.Family.TheVariants.{Plans, Gaps}
use Rattle.plan_command.specs.declared.request.Request.{Request}
use Rattle.plan_command.specs.declared.request.Request.TheVariants.{Plan, Check, Report, Make, Drill, Convert, Gap, CheckGap, Replan, Map, Duo}
use Rattle.plan_command.specs.declared.status.Status.{Status}
use Rattle.plan_command.specs.declared.status.Refusal.{Refusal}
use Rattle.plan_command.specs.declared.status.Refusal.TheVariants.{Rejected, BadScenario, BadPlan, BadFlown, BadDuo, TooManyNodes}
use Rattle.plan_command.specs.Words.{Family, of_scenario, of_plan, of_gap, of_nothing, family_of}
use Rattle.plan_command.specs.Plans.{HasBehind, IsPlanRest, IsGapRest, HasFaultIn}
use Rattle.plan_command.specs.Complete.{IsByText}
use Rattle.plan_command.specs.Commands.{IsInput, IsGapInput, IsRejected, HasBadText, HasBadPlan, HasBadGap, MakesText, IsUnmade, TellsPlan, NeedsAccepted, AnswersAs, RefusesAs, Answers, Refuses}
use Rattle.plan_command.proofs.Apart.{same_front, same_rest, same_scenario}
use Rattle.plan_command.proofs.Reading.{plan_or_fault, gap_or_fault, same_plan, same_gap, one_fault_behind}
use Rattle.plan_command.proofs.Unmade.{made_or_unmade, unmade_once}

-- a text is read or has a fault
pub read_or_not : (read : Result Front TextFault) (front : Front) (fault : TextFault) → read ≡ Ok front → read ≡ Err fault → ⊥
read_or_not read front fault h g = cc

-- and it has one first fault
one_fault : (read : Result Front TextFault) (a b : TextFault) → read ≡ Err a → read ≡ Err b → a ≡ b
one_fault read a b h g = cc

-- An input that begins with a scenario.
module _ {A : Type 0} (Stands : Problem → List ℕ → A → Type 0) (input : List ℕ) (p : Problem) (a : A) (h : HasBehind Stands input p a) where
  -- has no fault in that,
  pub no_front_fault : (fault : TextFault) → front_of input ≡ Err fault → ⊥
  no_front_fault fault bad = let front = h.1.front in read_or_not _ front.front fault front.read bad

  -- and what stands behind it by another reading stands behind it by this one
  pub behind_alike : {B : Type 0} (Others : Problem → List ℕ → B → Type 0) (q : Problem) (b : B) → HasBehind Others input q b → (p ≡ q) × Others p h.0 b
  behind_alike Others q b (more, other, stands) =
      let same_p = same_front p q input h.0 more h.1 other in
      let same_r = same_rest p q input h.0 more h.1 other in
      (same_p, subst (λ (z : Problem). Others z h.0 b) (sym same_p) (subst (λ r. Others q r b) (sym same_r) stands))

-- the plan of an input as that of another reading of it; and the gap plan
module _ {A : Type 0} (Stands : Problem → List ℕ → A → Type 0) (one : (p : Problem) (rest : List ℕ) (a b : A) → IsProblem p → Stands p rest a → Stands p rest b → a ≡ b) where
  alike : (input : List ℕ) (p q : Problem) (a b : A) (P : Problem → A → Type 0) → HasBehind Stands input p a → HasBehind Stands input q b → P p a → P q b
  alike input p q a b P h g holds =
      let other = behind_alike Stands input p a h Stands q b g in
      let here : P p b = subst (λ z. P p z) (one p h.0 a b h.1.front.says.sound h.2 other.1) holds in
      subst (λ (z : Problem). P z b) other.0 here

pub read_alike : (input : List ℕ) (p q : Problem) (a b : APlan) (P : Problem → APlan → Type 0) → IsInput input p a → IsInput input q b → P p a → P q b
read_alike = alike IsPlanRest same_plan

pub gap_alike : (input : List ℕ) (p q : Problem) (a b : GapPlan) (P : Problem → GapPlan → Type 0) → IsGapInput input p a → IsGapInput input q b → P p a → P q b
gap_alike = alike IsGapRest same_gap

-- what has a plan behind its scenario has no fault there, and so it is of a gap plan
pub no_plan_fault : (input : List ℕ) (p : Problem) (plan : APlan) (fault : PlanFault) → IsInput input p plan → HasBadPlan input fault → ⊥
no_plan_fault input p plan fault is (q, has) = plan_or_fault p is.0 plan fault is.1.front.says.sound is.2 (behind_alike IsPlanRest input p plan is (HasFaultIn Plans) q fault has).1

pub no_gap_fault : (input : List ℕ) (p : Problem) (plan : GapPlan) (fault : PlanFault) → IsGapInput input p plan → HasBadGap input fault → ⊥
no_gap_fault input p plan fault is (q, has) = gap_or_fault p is.0 plan fault is.1.front.says.sound is.2 (behind_alike IsGapRest input p plan is (HasFaultIn Gaps) q fault has).1

-- what is accepted isn't rejected
pub not_rejected : (input : List ℕ) (p : Problem) (plan : APlan) (at : RejectAt) → IsInput input p plan → Accepts p plan → IsRejected input at → ⊥
not_rejected input p plan at is accepts (q, other, read, turned, reason) = turned (read_alike input p q plan other (λ z a. Accepts z a) is read accepts)

one_reason : (p : Problem) (plan : APlan) (a b : RejectAt) → first_reason p plan ≡ Some a → first_reason p plan ≡ Some b → a ≡ b
one_reason p plan a b h g = cc

one_rejection : (input : List ℕ) (a b : RejectAt) → IsRejected input a → IsRejected input b → a ≡ b
one_rejection input a b (p, plan, is, turned, reason) (q, other, read, again, second) =
    let here = read_alike input p q plan other (λ z x. first_reason z x ≡ Some a) is read reason in
    one_reason q other a b here second

-- a fault of the scenario comes before one behind it,
no_front_first : (family : TextFamily) (input : List ℕ) (fault : TextFault) (other : PlanFault) → front_of input ≡ Err fault → HasBadText family input other → ⊥
no_front_first family input fault other bad (p, has) = no_front_fault (HasFaultIn family) input p other has fault bad

-- of which one is the first
one_behind : (family : TextFamily) (input : List ℕ) (a b : PlanFault) → HasBadText family input a → HasBadText family input b → a ≡ b
one_behind family input a b (p, h) (q, g) = one_fault_behind family p h.0 a b h.2 (behind_alike (HasFaultIn family) input p a h (HasFaultIn family) q b g).1

-- what is wrong with the input of a request that reads a scenario alone: its text, or what is asked of it
abbrev pub FaultsAlone : List (List ℕ) → Request → List ℕ → Refusal → Type 0
FaultsAlone words request input refusal =
    ((fault : TextFault) × (refusal ≡ BadScenario fault) × (alone_of input ≡ Err fault))
    ⊎ ((p : Problem) × IsTextOf p input × IsUnmade words request p refusal)

pub faults_alone : (words : List (List ℕ)) (request : Request) (input : List ℕ) (refusal : Refusal) → RefusesAs of_scenario words request input refusal → FaultsAlone words request input refusal
faults_alone words request input (BadScenario fault) refuses = inl (fault, refl, refuses)
faults_alone words request input (Rejected at) refuses = inr refuses
faults_alone words request input (BadPlan fault) refuses = inr refuses
faults_alone words request input (BadFlown why) refuses = inr refuses
faults_alone words request input (BadDuo why) refuses = inr refuses
faults_alone words request input (TooManyNodes limit) refuses = inr refuses

-- and with that of one that reads a plan or a gap plan, too: a text, or the plan
abbrev pub FaultsBehind : TextFamily → (RejectAt → Type 0) → List ℕ → Refusal → Type 0
FaultsBehind family Turned input refusal =
    ((fault : TextFault) × (refusal ≡ BadScenario fault) × (front_of input ≡ Err fault))
    ⊎ (((fault : PlanFault) × (refusal ≡ BadPlan fault) × HasBadText family input fault)
    ⊎ ((at : RejectAt) × (refusal ≡ Rejected at) × Turned at))

-- a plan that has to be accepted, and isn't; a gap plan is refused for its text alone
abbrev pub IsTurned : Request → List ℕ → RejectAt → Type 0
IsTurned request input at = NeedsAccepted request × IsRejected input at

abbrev pub FaultsBoth : Request → List ℕ → Refusal → Type 0
FaultsBoth request input refusal = FaultsBehind Plans (IsTurned request input) input refusal

abbrev pub FaultsGap : List ℕ → Refusal → Type 0
FaultsGap input refusal = FaultsBehind Gaps (λ at. ⊥) input refusal

pub faults_both : (words : List (List ℕ)) (request : Request) (input : List ℕ) (refusal : Refusal) → RefusesAs of_plan words request input refusal → FaultsBoth request input refusal
faults_both words request input (BadScenario fault) refuses = inl (fault, refl, refuses)
faults_both words request input (BadPlan fault) refuses = inr (inl (fault, refl, refuses))
faults_both words request input (Rejected at) refuses = inr (inr (at, refl, refuses))
faults_both words request input (BadFlown why) refuses = absurd refuses
faults_both words request input (BadDuo why) refuses = absurd refuses
faults_both words request input (TooManyNodes limit) refuses = absurd refuses

pub faults_gap : (words : List (List ℕ)) (request : Request) (input : List ℕ) (refusal : Refusal) → RefusesAs of_gap words request input refusal → FaultsGap input refusal
faults_gap words request input (BadScenario fault) refuses = inl (fault, refl, refuses)
faults_gap words request input (BadPlan fault) refuses = inr (inl (fault, refl, refuses))
faults_gap words request input (Rejected at) refuses = absurd refuses
faults_gap words request input (BadFlown why) refuses = absurd refuses
faults_gap words request input (BadDuo why) refuses = absurd refuses
faults_gap words request input (TooManyNodes limit) refuses = absurd refuses

-- what needs an accepted plan tells of one
needs_accepts : (request : Request) (p : Problem) (plan : APlan) (status : Status) (text : List ℕ) → NeedsAccepted request → TellsPlan request p plan status text → Accepts p plan
needs_accepts (Report json) p plan status text needs tells = tells.1
needs_accepts Convert p plan status text needs tells = tells.1
needs_accepts Check p plan status text needs tells = absurd needs
needs_accepts (Plan workers nodes) p plan status text needs tells = absurd needs
needs_accepts (Make number) p plan status text needs tells = absurd needs
needs_accepts (Drill number workers) p plan status text needs tells = absurd needs
needs_accepts (Gap workers nodes) p plan status text needs tells = absurd needs
needs_accepts CheckGap p plan status text needs tells = absurd needs
needs_accepts (Replan workers nodes flown) p plan status text needs tells = absurd needs
needs_accepts (Map flown) p plan status text needs tells = absurd needs
needs_accepts (Duo workers nodes second) p plan status text needs tells = absurd needs

module _ (words : List (List ℕ)) (request : Request) (input : List ℕ) where
  -- a scenario of which a text is made isn't refused
  alone_or_not : (p : Problem) (text : List ℕ) (refusal : Refusal) → IsByText refusal → IsTextOf p input → MakesText words request p text → FaultsAlone words request input refusal → ⊥
  alone_or_not p text refusal by is makes (inl (fault, same, bad)) = read_or_not _ is.front fault is.read bad
  alone_or_not p text refusal by is makes (inr (q, other, unmade)) =
      let unmade_here = subst (λ (z : Problem). IsUnmade words request z refusal) (same_scenario q p input other is) unmade in
      made_or_unmade words request p text refusal is.says.sound by makes unmade_here

  -- nor is a plan of which something is told, nor a gap plan
  both_or_not : (p : Problem) (plan : APlan) (status : Status) (text : List ℕ) (refusal : Refusal) → IsInput input p plan → TellsPlan request p plan status text → FaultsBoth request input refusal → ⊥
  both_or_not p plan status text refusal is tells (inl (fault, same, bad)) = no_front_fault IsPlanRest input p plan is fault bad
  both_or_not p plan status text refusal is tells (inr (inl (fault, same, bad))) = no_plan_fault input p plan fault is bad
  both_or_not p plan status text refusal is tells (inr (inr (at, same, (needs, rejected)))) = not_rejected input p plan at is (needs_accepts request p plan status text needs tells) rejected

  pub gap_or_not : (p : Problem) (plan : GapPlan) (refusal : Refusal) → IsGapInput input p plan → FaultsGap input refusal → ⊥
  gap_or_not p plan refusal is (inl (fault, same, bad)) = no_front_fault IsGapRest input p plan is fault bad
  gap_or_not p plan refusal is (inr (inl (fault, same, bad))) = no_gap_fault input p plan fault is bad
  gap_or_not p plan refusal is (inr (inr (at, same, turned))) = turned

  as_or_not : (family : Family) (status : Status) (text : List ℕ) (refusal : Refusal) → IsByText refusal → AnswersAs family words request input status text → RefusesAs family words request input refusal → ⊥
  as_or_not of_scenario status text refusal by (done, (p, is, makes)) refuses = alone_or_not p text refusal by is makes (faults_alone words request input refusal refuses)
  as_or_not of_plan status text refusal by (p, plan, is, tells) refuses = both_or_not p plan status text refusal is tells (faults_both words request input refusal refuses)
  as_or_not of_gap status text refusal by (p, plan, is, tells) refuses = gap_or_not p plan refusal is (faults_gap words request input refusal refuses)
  as_or_not of_nothing status text refusal by answers refuses = refuses

  -- an input that is answered isn't refused for its text
  pub answers_or_refuses : (status : Status) (text : List ℕ) (refusal : Refusal) → IsByText refusal → Answers words request input status text → Refuses words request input refusal → ⊥
  answers_or_refuses status text refusal by answers refuses = as_or_not (family_of request) status text refusal by answers refuses

  -- a scenario is refused in one way
  alone_once : (a b : Refusal) → IsByText b → FaultsAlone words request input a → FaultsAlone words request input b → a ≡ b
  alone_once a b by (inl (f, e, h)) (inl (g, d, k)) = e ∙ ap (λ (x : TextFault). BadScenario x) (one_fault _ f g h k) ∙ sym d
  alone_once a b by (inl (f, e, h)) (inr (p, is, unmade)) = absurd (read_or_not _ is.front f is.read h)
  alone_once a b by (inr (p, is, unmade)) (inl (g, d, k)) = absurd (read_or_not _ is.front g is.read k)
  alone_once a b by (inr (p, is, unmade)) (inr (q, other, never)) =
      let unmade_there = subst (λ (z : Problem). IsUnmade words request z a) (same_scenario p q input is other) unmade in
      unmade_once words request q a b other.says.sound by unmade_there never

  -- so is what stands behind one, where a plan that is turned down has a text, and is turned down for one reason
  behind_once : (family : TextFamily) (Turned : RejectAt → Type 0) →
      ((at : RejectAt) (fault : TextFault) → Turned at → front_of input ≡ Err fault → ⊥) → ((at : RejectAt) (fault : PlanFault) → Turned at → HasBadText family input fault → ⊥) →
      ((at other : RejectAt) → Turned at → Turned other → at ≡ other) → (a b : Refusal) → FaultsBehind family Turned input a → FaultsBehind family Turned input b → a ≡ b
  behind_once family Turned front text once a b (inl (f, e, h)) (inl (g, d, k)) = e ∙ ap (λ (x : TextFault). BadScenario x) (one_fault _ f g h k) ∙ sym d
  behind_once family Turned front text once a b (inl (f, e, h)) (inr (inl (g, d, k))) = absurd (no_front_first family input f g h k)
  behind_once family Turned front text once a b (inl (f, e, h)) (inr (inr (at, d, k))) = absurd (front at f k h)
  behind_once family Turned front text once a b (inr (inl (f, e, h))) (inl (g, d, k)) = absurd (no_front_first family input g f k h)
  behind_once family Turned front text once a b (inr (inl (f, e, h))) (inr (inl (g, d, k))) = e ∙ ap (λ (x : PlanFault). BadPlan x) (one_behind family input f g h k) ∙ sym d
  behind_once family Turned front text once a b (inr (inl (f, e, h))) (inr (inr (at, d, k))) = absurd (text at f k h)
  behind_once family Turned front text once a b (inr (inr (at, e, h))) (inl (g, d, k)) = absurd (front at g h k)
  behind_once family Turned front text once a b (inr (inr (at, e, h))) (inr (inl (g, d, k))) = absurd (text at g h k)
  behind_once family Turned front text once a b (inr (inr (at, e, h))) (inr (inr (other, d, k))) = e ∙ ap (λ (x : RejectAt). Rejected x) (once at other h k) ∙ sym d

  both_once : (a b : Refusal) → FaultsBoth request input a → FaultsBoth request input b → a ≡ b
  both_once = behind_once Plans (IsTurned request input)
      (λ at fault turned bad. no_front_fault IsPlanRest input turned.1.0 turned.1.1 turned.1.2 fault bad)
      (λ at fault turned bad. no_plan_fault input turned.1.0 turned.1.1 fault turned.1.2 bad)
      (λ at other h k. one_rejection input at other h.1 k.1)

  gap_once : (a b : Refusal) → FaultsGap input a → FaultsGap input b → a ≡ b
  gap_once = behind_once Gaps (λ at. ⊥) (λ at fault turned bad. turned) (λ at fault turned bad. turned) (λ at other h k. absurd h)

  as_once : (family : Family) (a b : Refusal) → IsByText b → RefusesAs family words request input a → RefusesAs family words request input b → a ≡ b
  as_once of_scenario a b by h g = alone_once a b by (faults_alone words request input a h) (faults_alone words request input b g)
  as_once of_plan a b by h g = both_once a b (faults_both words request input a h) (faults_both words request input b g)
  as_once of_gap a b by h g = gap_once a b (faults_gap words request input a h) (faults_gap words request input b g)
  as_once of_nothing a b by h g = absurd h

  -- an input that is refused for its text is refused in no other way
  pub refuses_once : (a b : Refusal) → IsByText b → Refuses words request input a → Refuses words request input b → a ≡ b
  refuses_once a b by h g = as_once (family_of request) a b by h g
