-- What holds of reading the text of a plan.
use Rattle.std.specs.Prelude.{ℕ, ◌≡◌, ◌↔◌, List, [], ◌∷◌, map, Ok, Err}
use Rattle.search_model.specs.Problem.{Problem, IsProblem}
use Rattle.bound_tree.specs.declared.plan.Plan.{Plan}
use Rattle.bound_tree.specs.declared.gap.GapPlan.{GapPlan}
use Rattle.bound_tree.specs.Gaps.{shape_of}
use Rattle.bound_tree.specs.Places.{AreInPlace}
use Rattle.tree_format.specs.declared.plan_line.Family.{Family}
use Rattle.tree_format.specs.declared.kind.PlanFault.{PlanFault}
use Rattle.tree_format.specs.declared.due.Due.{Due}
use Rattle.tree_format.specs.PlanText.{IsTextOfPlan, IsPrintableGap, IsNarrowGap, IsGapText, gap_text}
use Rattle.tree_format.specs.Reading.{line_at, text_at, plan_at, gap_at, summary_of}
use Rattle.tree_format.specs.Faults.{IsFirstFault}

-- a text of a plan, in whichever dialect of plans, reads back as the plan
abbrev pub PlanTextReadsBack : Type 0
PlanTextReadsBack = (p : Problem) (plan : Plan) (text : List ℕ) → IsProblem p → IsTextOfPlan p plan text → plan_at p text ≡ Ok plan

-- and so does the text of a gap plan, where the nodes have the prefixes that are expected
abbrev pub GapTextReadsBack : Type 0
GapTextReadsBack = (p : Problem) (plan : GapPlan) → IsProblem p → IsPrintableGap p plan → IsNarrowGap plan → AreInPlace p ([] ∷ []) (map shape_of plan.nodes) → gap_at p (gap_text p plan) ≡ Ok plan

-- what is read as a plan is the text of that plan in one of the dialects of plans
abbrev pub OneTextAPlan : Type 0
OneTextAPlan = (p : Problem) (plan : Plan) (text : List ℕ) → IsProblem p → plan_at p text ≡ Ok plan → IsTextOfPlan p plan text

-- what is read as a gap plan is the text of that gap plan, which has one
abbrev pub OneTextAGap : Type 0
OneTextAGap = (p : Problem) (plan : GapPlan) (text : List ℕ) → IsProblem p → gap_at p text ≡ Ok plan → IsGapText p plan text

-- two plans of one text are one plan
abbrev pub OnePlanAText : Type 0
OnePlanAText = (p : Problem) (a b : Plan) (text : List ℕ) → IsProblem p → IsTextOfPlan p a text → IsTextOfPlan p b text → a ≡ b

-- and two gap plans of one text are one
abbrev pub OneGapAText : Type 0
OneGapAText = (p : Problem) (a b : GapPlan) (text : List ℕ) → IsProblem p → IsGapText p a text → IsGapText p b text → a ≡ b

-- a line is judged by the first 40 bytes of each of its first 70 fields
abbrev pub SummaryDecides : Type 0
SummaryDecides = (p : Problem) (d : Due) (fields : List (List ℕ)) → IsProblem p → line_at p d (summary_of fields) ≡ line_at p d fields

-- the fault that reading gives is the first one
abbrev pub FirstFaultDecides : Type 0
FirstFaultDecides = (family : Family) (p : Problem) (text : List ℕ) (fault : PlanFault) → (text_at family p text ≡ Err fault) ↔ IsFirstFault family p text fault
