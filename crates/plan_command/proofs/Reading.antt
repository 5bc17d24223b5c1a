-- A scenario and a plan on one input.
use Rattle.std.proofs.Common.{ℕ, ◌≡◌, false, List, Result, Ok, Err, refl, sym, ap, subst, ◌∙◌}
use Rattle.search_model.specs.Problem.{Problem, IsProblem}
use Rattle.bound_tree.specs.declared.plan.Plan.{Plan}
use Rattle.bound_tree.specs.declared.gap.GapPlan.{GapPlan}
use Rattle.bound_tree.specs.Gaps.{plan_of, gap_of}
use Rattle.tree_format.specs.declared.kind.PlanFault.{PlanFault}
use Rattle.tree_format.specs.declared.plan_line.Dialect.{Dialect}
use Rattle.tree_format.specs.declared.plan_line.Dialect.TheVariants.{PlanOne, PlanTwo, PlanThree, GapOne, GapTwo}
use Rattle.tree_format.specs.declared.plan_line.Family.{Family}
use Rattle.tree_format.specs.declared.plan_line.Family.TheVariants.{Plans, Gaps}
use Rattle.tree_format.specs.Dialects.{numbers_in, dialect_with}
use Rattle.tree_format.specs.PlanText.{text_in, plan_text, gap_text, IsTextOfPlan, IsGapText}
use Rattle.tree_format.specs.Reading.{text_at, as_plan, plan_at, gap_at}
use Rattle.tree_format.proofs.ReadsBack.{text_read, read_is_closed, gap_read, one_plan_a_text, one_gap_a_text}
use Rattle.tree_format.proofs.Spelled.{one_text_a_plan, one_text_a_gap}
use Rattle.plan_command.specs.Plans.{IsRest, IsPlanRest, IsGapRest, IsReadFault, HasFaultIn}
use Rattle.plan_command.specs.Families.{IsRestOf}
use Rattle.plan_command.specs.Spaces.{starts_with_space, SkipsSpaces}
use Rattle.plan_command.proofs.SpaceLemmas.{skipped_alike}

-- the text of a plan or of a gap plan begins with no blank
starts_so : (text whole : List ℕ) → text ≡ whole → starts_with_space whole ≡ false → starts_with_space text ≡ false
starts_so text whole is first = subst (λ t. starts_with_space t ≡ false) (sym is) first

text_begins : (v : Dialect) (p : Problem) (plan : GapPlan) → starts_with_space (text_in v p plan) ≡ false
text_begins PlanOne p plan = refl
text_begins PlanTwo p plan = refl
text_begins PlanThree p plan = refl
text_begins GapOne p plan = refl
text_begins GapTwo p plan = refl

text_starts : (p : Problem) (plan : Plan) (text : List ℕ) → IsTextOfPlan p plan text → starts_with_space text ≡ false
text_starts p plan text (v, plans, is) = starts_so text (plan_text v p plan) is.spelled (text_begins v p (gap_of (numbers_in v) plan))

gap_starts : (p : Problem) (plan : GapPlan) (text : List ℕ) → IsGapText p plan text → starts_with_space text ≡ false
gap_starts p plan text is = starts_so text (gap_text p plan) is.spelled (text_begins (dialect_with plan.numbers) p plan)

-- the plan of the text behind the blanks that are skipped is the plan of the rest
pub plan_behind : (p : Problem) (rest text : List ℕ) (plan : Plan) → IsProblem p → SkipsSpaces rest text → plan_at p text ≡ Ok plan → IsPlanRest p rest plan
plan_behind p rest text plan sound skips reads = record {
  blanks = skips.blanks;
  only = skips.only;
  text = text;
  spelled = one_text_a_plan p plan text sound reads;
  whole = skips.whole;
}

-- and so it is of a gap plan
pub rest_behind : (family : Family) (p : Problem) (rest text : List ℕ) (plan : GapPlan) → IsProblem p → SkipsSpaces rest text → text_at family p text ≡ Ok plan → IsRestOf family p rest plan
rest_behind Plans p rest text plan sound skips reads =
    let own = ap as_plan reads in
    (plan_behind p rest text (plan_of plan) sound skips own, read_is_closed p sound plan text (one_text_a_plan p (plan_of plan) text sound own) reads)
rest_behind Gaps p rest text plan sound skips reads = record {
  blanks = skips.blanks;
  only = skips.only;
  text = text;
  spelled = one_text_a_gap p plan text sound reads;
  whole = skips.whole;
}

-- a fault of a text of the family
pub read_fault : (family : Family) (p : Problem) (text : List ℕ) (fault : PlanFault) → text_at family p text ≡ Err fault → IsReadFault family p text fault
read_fault Plans p text fault reads = ap as_plan reads
read_fault Gaps p text fault reads = reads

-- a text reads in one way
read_or_not : {A : Type 0} (read : Result A PlanFault) (a : A) (fault : PlanFault) → read ≡ Ok a → read ≡ Err fault → ⊥
read_or_not read a fault h g = cc

same_fault : {A : Type 0} (read : Result A PlanFault) (a b : PlanFault) → read ≡ Err a → read ≡ Err b → a ≡ b
same_fault read a b h g = cc

-- what stands behind a scenario stands behind its blanks, where its text begins with none
module _ {A : Type 0} (IsText : Problem → A → List ℕ → Type 0) (starts : (p : Problem) (a : A) (text : List ℕ) → IsText p a text → starts_with_space text ≡ false) where
  same_text : (p : Problem) (rest : List ℕ) (a b : A) (h : IsRest (IsText p a) rest) (g : IsRest (IsText p b) rest) → h.text ≡ g.text
  same_text p rest a b h g = skipped_alike h.blanks g.blanks h.text g.text h.only g.only (starts p a h.text h.spelled) (starts p b g.text g.spelled) (sym h.whole ∙ g.whole)

  skipped_text : (p : Problem) (rest text : List ℕ) (a : A) (h : IsRest (IsText p a) rest) → SkipsSpaces rest text → h.text ≡ text
  skipped_text p rest text a h skips = skipped_alike h.blanks skips.blanks h.text text h.only skips.only (starts p a h.text h.spelled) skips.stops (sym h.whole ∙ skips.whole)

-- the rest is the text of a plan, or of a gap plan, or it has a fault
pub plan_or_fault : (p : Problem) (rest : List ℕ) (plan : Plan) (fault : PlanFault) → IsProblem p → IsPlanRest p rest plan → HasFaultIn Plans p rest fault → ⊥
plan_or_fault p rest plan fault sound is has =
    let same = skipped_text IsTextOfPlan text_starts p rest has.text plan is has.skips in
    read_or_not (plan_at p is.text) plan fault (text_read p sound plan is.text is.spelled) (subst (λ t. plan_at p t ≡ Err fault) (sym same) has.read)

pub gap_or_fault : (p : Problem) (rest : List ℕ) (plan : GapPlan) (fault : PlanFault) → IsProblem p → IsGapRest p rest plan → HasFaultIn Gaps p rest fault → ⊥
gap_or_fault p rest plan fault sound is has =
    let same = skipped_text IsGapText gap_starts p rest has.text plan is has.skips in
    read_or_not (gap_at p is.text) plan fault (gap_read p sound plan is.text is.spelled) (subst (λ t. gap_at p t ≡ Err fault) (sym same) has.read)

-- of one plan, or of one gap plan,
pub same_plan : (p : Problem) (rest : List ℕ) (a b : Plan) → IsProblem p → IsPlanRest p rest a → IsPlanRest p rest b → a ≡ b
same_plan p rest a b sound h g = one_plan_a_text p a b h.text sound h.spelled (subst (λ t. IsTextOfPlan p b t) (sym (same_text IsTextOfPlan text_starts p rest a b h g)) g.spelled)

pub same_gap : (p : Problem) (rest : List ℕ) (a b : GapPlan) → IsProblem p → IsGapRest p rest a → IsGapRest p rest b → a ≡ b
same_gap p rest a b sound h g = one_gap_a_text p a b h.text sound h.spelled (subst (λ t. IsGapText p b t) (sym (same_text IsGapText gap_starts p rest a b h g)) g.spelled)

-- and it has one first fault
pub one_fault_behind : (family : Family) (p : Problem) (rest : List ℕ) (a b : PlanFault) → HasFaultIn family p rest a → HasFaultIn family p rest b → a ≡ b
one_fault_behind family p rest a b h g =
    let same = skipped_alike h.skips.blanks g.skips.blanks h.text g.text h.skips.only g.skips.only h.skips.stops g.skips.stops (sym h.skips.whole ∙ g.skips.whole) in
    one_read_fault family p h.text a b h.read (subst (λ t. IsReadFault family p t b) (sym same) g.read)
  where
    one_read_fault : (family : Family) (p : Problem) (text : List ℕ) (a b : PlanFault) → IsReadFault family p text a → IsReadFault family p text b → a ≡ b
    one_read_fault Plans p text a b h g = same_fault (plan_at p text) a b h g
    one_read_fault Gaps p text a b h g = same_fault (gap_at p text) a b h g
