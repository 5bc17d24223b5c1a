-- What the answer to a reader says of the text.
use Rattle.std.proofs.Common.{◌≡◌, ℕ, List, Result, Ok, Err, sym, ap, ◌∙◌}
use Rattle.search_model.specs.Problem.{Problem, IsProblem}
use Rattle.bound_tree.specs.declared.plan.Plan.{Plan}
use Rattle.bound_tree.specs.declared.gap.GapPlan.{GapPlan}
use Rattle.tree_format.specs.declared.collecting.Collected.{Collected}
use Rattle.tree_format.specs.declared.plan_line.Family.{Family}
use Rattle.tree_format.specs.declared.plan_line.Family.TheVariants.{Plans, Gaps}
use Rattle.tree_format.specs.declared.stop.PlanStop.{PlanStop}
use Rattle.tree_format.specs.declared.stop.PlanStop.TheVariants.{Fault, NoMemory}
use Rattle.tree_format.specs.PlanText.{IsPrintable, IsTextOfPlan, IsGapText}
use Rattle.tree_format.specs.declared.kind.PlanFault.{PlanFault}
use Rattle.tree_format.specs.Faults.{IsFirstFault}
use Rattle.tree_format.specs.Gives.{Gives, Reads, ReadsPlan, ReadsGap, Says, Tells, IfFault}
use Rattle.tree_format.specs.Reading.{text_at, as_plan, plan_at, gap_at}
use Rattle.tree_format.specs.Collecting.{plan_in, gap_in}
use Rattle.tree_format.proofs.ReadsBack.{text_read, gap_read}
use Rattle.tree_format.proofs.FirstFaults.{first_fault_decides}

-- what has a text can be printed
pub printable_read : (p : Problem) (plan : Plan) (text : List ℕ) → IsTextOfPlan p plan text → IsPrintable p plan
printable_read p plan text spelled = spelled.2.printable

-- what reading gives is answered, unless memory ran out
answer_said : {A : Type 0} (read : Result A PlanFault) (plan : A) (result : Result A PlanStop) → Reads read result → read ≡ Ok plan → Says result plan
answer_said read plan (Ok found) reads is = let same : Ok found ≡ Ok plan = sym reads ∙ is in cc
answer_said read plan (Err (Fault fault)) reads is = absurd (let both : Err fault ≡ Ok plan = sym reads ∙ is in let bad : ⊥ = cc in bad)
answer_said read plan (Err NoMemory) reads is = tt

-- the text of a plan is answered by that plan, and that of a gap plan by that gap plan
pub plan_said : (p : Problem) → IsProblem p → (plan : Plan) (text : List ℕ) (result : Result Plan PlanStop) → ReadsPlan p text result → IsTextOfPlan p plan text → Says result plan
plan_said p h plan text result reads k = answer_said (plan_at p text) plan result reads (text_read p h plan text k)

pub gap_said : (p : Problem) → IsProblem p → (plan : GapPlan) (text : List ℕ) (result : Result GapPlan PlanStop) → ReadsGap p text result → IsGapText p plan text → Says result plan
gap_said p h plan text result reads k = answer_said (gap_at p text) plan result reads (gap_read p h plan text k)

-- what was collected is what reading gives
pub plan_given : (p : Problem) (text : List ℕ) (kept : Collected) (plan : Plan) → Gives Plans (Ok kept) (text_at Plans p text) → plan ≡ plan_in kept → ReadsPlan p text (Ok plan)
plan_given p text kept plan (read, spelled, keeps) is = ap as_plan spelled ∙ ap Ok (sym (is ∙ keeps))

pub gap_given : (p : Problem) (text : List ℕ) (kept : Collected) (plan : GapPlan) → Gives Gaps (Ok kept) (text_at Gaps p text) → plan ≡ gap_in kept → ReadsGap p text (Ok plan)
gap_given p text kept plan (read, spelled, keeps) is = spelled ∙ ap Ok (sym (is ∙ keeps))

-- reading stopped
pub stop_read : (p : Problem) (text : List ℕ) (stop : PlanStop) → Gives Plans (Err stop) (text_at Plans p text) → ReadsPlan p text (Err stop)
stop_read p text (Fault fault) gives = ap as_plan gives
stop_read p text NoMemory gives = tt

pub gap_stop_read : (p : Problem) (text : List ℕ) (stop : PlanStop) → Gives Gaps (Err stop) (text_at Gaps p text) → ReadsGap p text (Err stop)
gap_stop_read p text (Fault fault) gives = gives
gap_stop_read p text NoMemory gives = tt

-- a plan has the fault that its text has
same_fault : (a b : PlanFault) → ◌≡◌ {A = Result Plan PlanFault} (Err a) (Err b) → a ≡ b
same_fault a b e = cc

plan_fault : (read : Result GapPlan PlanFault) (fault : PlanFault) → as_plan read ≡ Err fault → read ≡ Err fault
plan_fault (Ok whole) fault e = absurd (let bad : ⊥ = cc in bad)
plan_fault (Err other) fault e = ap Err (same_fault other fault e)

-- a fault that is told is the first, and the first is told, unless memory ran out
gives_first : {A : Type 0} (family : Family) (p : Problem) (text : List ℕ) (read : Result A PlanFault) (result : Result A PlanStop) → ((fault : PlanFault) → read ≡ Err fault → text_at family p text ≡ Err fault) → Reads read result → IfFault result (IsFirstFault family p text)
gives_first family p text read (Ok found) back reads = tt
gives_first family p text read (Err (Fault told)) back reads = (first_fault_decides family p text told).0 (back told reads)
gives_first family p text read (Err NoMemory) back reads = tt

first_given : {A : Type 0} (family : Family) (p : Problem) (text : List ℕ) (read : Result A PlanFault) (result : Result A PlanStop) (fault : PlanFault) → (text_at family p text ≡ Err fault → read ≡ Err fault) → Reads read result → IsFirstFault family p text fault → Tells result fault
first_given family p text read (Ok found) fault on reads h = absurd (let both : Ok found ≡ Err fault = sym reads ∙ on ((first_fault_decides family p text fault).1 h) in let bad : ⊥ = cc in bad)
first_given family p text read (Err (Fault told)) fault on reads h = let both : Err told ≡ Err fault = sym reads ∙ on ((first_fault_decides family p text fault).1 h) in cc
first_given family p text read (Err NoMemory) fault on reads h = tt

pub told_first : (p : Problem) (text : List ℕ) (result : Result Plan PlanStop) → ReadsPlan p text result → IfFault result (IsFirstFault Plans p text)
told_first p text result reads = gives_first Plans p text (plan_at p text) result (λ fault e. plan_fault (text_at Plans p text) fault e) reads

pub first_told : (p : Problem) (text : List ℕ) (result : Result Plan PlanStop) (fault : PlanFault) → ReadsPlan p text result → IsFirstFault Plans p text fault → Tells result fault
first_told p text result fault reads h = first_given Plans p text (plan_at p text) result fault (λ e. ap as_plan e) reads h

pub gap_told_first : (p : Problem) (text : List ℕ) (result : Result GapPlan PlanStop) → ReadsGap p text result → IfFault result (IsFirstFault Gaps p text)
gap_told_first p text result reads = gives_first Gaps p text (gap_at p text) result (λ fault e. e) reads

pub gap_first_told : (p : Problem) (text : List ℕ) (result : Result GapPlan PlanStop) (fault : PlanFault) → ReadsGap p text result → IsFirstFault Gaps p text fault → Tells result fault
gap_first_told p text result fault reads h = first_given Gaps p text (gap_at p text) result fault (λ e. e) reads h
