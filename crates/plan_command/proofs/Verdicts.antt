-- What is told of a verdict.
use Rattle.std.proofs.Common.{ℕ, ◌≡◌, Bool, List, Option, Result, Ok, Err, Some, None, inl, inr, refl, sym, ap, subst, ◌∙◌}
use Rattle.std.specs.Option.{option_map}
use Rattle.search_model.specs.Problem.{Problem}
use Rattle.search_model.specs.Legal.{IsPath}
use Rattle.bound_tree.specs.declared.plan.Plan.{Plan as APlan}
use Rattle.bound_tree.specs.declared.gap.Numbers.TheVariants.{Means}
use Rattle.bound_tree.specs.declared.gap.GapPlan.{GapPlan}
use Rattle.bound_tree.specs.Accepts.{Accepts}
use Rattle.bound_tree.specs.Gaps.{GapAccepts, plan_of, gap_of}
use Rattle.bound_tree.proofs.Ceilings.{plan_is_gap_plan}
use Rattle.tree_format.specs.declared.plan_line.Family.{Family}
use Rattle.tree_format.specs.declared.plan_line.Family.TheVariants.{Plans, Gaps}
use Rattle.tree_checker.specs.declared.verdict.RejectAt.{RejectAt}
use Rattle.tree_checker.specs.declared.gap_verdict.GapRejectAt.{GapRejectAt}
use Rattle.tree_checker.specs.declared.gap_verdict.GapVerdict.{GapVerdict}
use Rattle.tree_checker.specs.declared.gap_verdict.GapVerdict.TheVariants.{Accepted, Rejected}
use Rattle.tree_checker.specs.Reasons.{reason_from, as_plain, first_reason}
use Rattle.tree_checker.specs.GapReasons.{gap_verdict_of}
use Rattle.tree_checker.specs.Records.{as_gap}
use Rattle.tree_checker.proofs.Records.{reason_is_plain}
use Rattle.plan_command.specs.declared.answer.Answer.{Answer}
use Rattle.plan_command.specs.declared.intake.Judgement.{Judgement}
use Rattle.plan_command.specs.declared.request.Request.TheVariants.{Check, CheckGap, Report}
use Rattle.plan_command.specs.declared.status.Stop.{Stop}
use Rattle.plan_command.specs.declared.status.Status.{Status}
use Rattle.plan_command.specs.declared.status.Status.TheVariants.{Done}
use Rattle.plan_command.specs.Lines.{rejection_of, gap_rejection_of}
use Rattle.plan_command.specs.Families.{reason_against}
use Rattle.plan_command.specs.Commands.{report_of, IsVerdict, IsGapVerdict, Answers, IsRejected}
use Rattle.plan_command.specs.Checks.{IsTold, TellsVerdict}
use Rattle.plan_command.specs.Makes.{MakesOf}
use Rattle.plan_command.specs.Intakes.{IsVerdictOn, Judges, JudgesAs}

reason_is : (reason : Option GapRejectAt) (at : GapRejectAt) → Rejected at ≡ gap_verdict_of reason → reason ≡ Some at
reason_is None at e = let bad : ⊥ = cc in absurd bad
reason_is (Some other) at e = let same : other ≡ at = cc in ap Some same

never_both : (at : GapRejectAt) → Rejected at ≡ Accepted → ⊥
never_both at e = let bad : ⊥ = cc in bad

-- what is rejected isn't accepted, for the first reason against it
rejected_for : (family : Family) (p : Problem) (plan : GapPlan) (verdict : GapVerdict) (at : GapRejectAt) → verdict ≡ Rejected at → IsVerdictOn family p plan verdict → (GapAccepts p plan → ⊥) × (reason_against family p plan ≡ Some at)
rejected_for family p plan verdict at rejected on = ((λ accepts. never_both at (sym rejected ∙ on.accepted.1 accepts)), reason_is _ at (sym rejected ∙ on.exact))

-- A plan as the gap plan of its records.
module _ (p : Problem) (plan : GapPlan) (closed : gap_of Means (plan_of plan) ≡ plan) where
  pub plan_accepted : GapAccepts p plan → Accepts p (plan_of plan)
  plan_accepted a = (plan_is_gap_plan Means p (plan_of plan)).1 (subst (GapAccepts p) (sym closed) a)

  gap_accepted : Accepts p (plan_of plan) → GapAccepts p plan
  gap_accepted a = subst (GapAccepts p) closed ((plan_is_gap_plan Means p (plan_of plan)).0 a)

  -- the first reason against it
  plain_first_reason : reason_against Plans p plan ≡ option_map as_gap (first_reason p (plan_of plan))
  plain_first_reason = ap (reason_from 5 p) (sym closed) ∙ reason_is_plain Means p (plan_of plan)

-- a reason against a plan that is told as this one
plain_is : (reason : Option RejectAt) (at : GapRejectAt) → option_map as_gap reason ≡ Some at → (plain : RejectAt) × (reason ≡ Some plain) × (as_gap plain ≡ at)
plain_is None at e = let bad : ⊥ = cc in absurd bad
plain_is (Some plain) at e = let same : as_gap plain ≡ at = cc in (plain, refl, same)

plain_line : (plain : RejectAt) (at : GapRejectAt) → as_gap plain ≡ at → gap_rejection_of at ≡ rejection_of plain
plain_line plain at same = ap gap_rejection_of (sym same)

-- so a check tells the verdict on a plan
plan_told : (p : Problem) (plan : GapPlan) (verdict : GapVerdict) (status : Status) (text : List ℕ) → gap_of Means (plan_of plan) ≡ plan → IsVerdictOn Plans p plan verdict → IsTold verdict status text → IsVerdict p (plan_of plan) status text
plan_told p plan Accepted status text closed on (done, said) = inl (plan_accepted p plan closed (on.accepted.0 refl), done, said)
plan_told p plan (Rejected at) status text closed on (done, said) =
    let (refused, against) = rejected_for Plans p plan (Rejected at) at refl on in
    let (plain, first, told) = plain_is (first_reason p (plan_of plan)) at (sym (plain_first_reason p plan closed) ∙ against) in
    inr ((λ accepts. refused (gap_accepted p plan closed accepts)), done, (plain, first, said ∙ plain_line plain at told))

-- and that on a gap plan
gap_told : (p : Problem) (plan : GapPlan) (verdict : GapVerdict) (status : Status) (text : List ℕ) → IsVerdictOn Gaps p plan verdict → IsTold verdict status text → IsGapVerdict p plan status text
gap_told p plan Accepted status text on (done, said) = inl (on.accepted.0 refl, done, said)
gap_told p plan (Rejected at) status text on (done, said) =
    let (refused, against) = rejected_for Gaps p plan (Rejected at) at refl on in
    inr (refused, done, (at, against, said))

module _ (words : List (List ℕ)) (input : List ℕ) (judged : Judgement) where
  pub check_made : (made : Result Answer Stop) → TellsVerdict judged.verdict made → Judges Plans input (Ok judged) → MakesOf words Check input made
  check_made (Ok answer) told (plan, (rest, begins, (behind, closed)), on, kept) =
      (judged.sc, plan_of plan, (rest, begins, behind), plan_told judged.sc plan judged.verdict answer.status answer.text.items closed on told)
  check_made (Err stop) told judges = subst (λ (s : Stop). MakesOf words Check input (Err s)) (sym told) tt

  pub gap_check_made : (made : Result Answer Stop) → TellsVerdict judged.verdict made → Judges Gaps input (Ok judged) → MakesOf words CheckGap input made
  gap_check_made (Ok answer) told (plan, is, on, kept) = (judged.sc, plan, is, gap_told judged.sc plan judged.verdict answer.status answer.text.items on told)
  gap_check_made (Err stop) told (plan, is, on, kept) = subst (λ (s : Stop). MakesOf words CheckGap input (Err s)) (sym told) tt

  pub report_told : (json : Bool) (status : Status) (text : List ℕ) → judged.verdict ≡ Accepted → status ≡ Done → text ≡ report_of json judged.sc judged.plan.standing.path → Judges Plans input (Ok judged) → Answers words (Report json) input status text
  report_told json status text accepted done is_report (plan, (rest, begins, (behind, closed)), on, kept) =
      (judged.sc, plan_of plan, (rest, begins, behind), (done, plan_accepted judged.sc plan closed (on.accepted.0 accepted), is_report ∙ ap (λ (k : APlan). report_of json judged.sc k.standing.path) kept))

-- the path of an accepted plan is one
pub reported_path : (input : List ℕ) (judged : Judgement) → judged.verdict ≡ Accepted → Judges Plans input (Ok judged) → IsPath judged.sc judged.plan.standing.path
reported_path input judged accepted (plan, is, on, kept) = subst (λ (k : APlan). IsPath judged.sc k.standing.path) (sym kept) ((on.accepted.0 accepted).path)

-- what is said against a plan, whether its records are kept or not, is the first reason against it
pub plan_rejected : (keeps : Bool) (input : List ℕ) (judged : Judgement) (at : GapRejectAt) (plain : RejectAt) → judged.verdict ≡ Rejected at → plain ≡ as_plain at →
    JudgesAs (record { family = Plans; keeps = keeps }) input (Ok judged) → IsRejected input plain
plan_rejected keeps input judged at plain rejected is (plan, (rest, begins, (behind, closed)), on, kept) =
    let (refused, against) = rejected_for Plans judged.sc plan judged.verdict at rejected on in
    let (other, first, told) = plain_is (first_reason judged.sc (plan_of plan)) at (sym (plain_first_reason judged.sc plan closed) ∙ against) in
    let same : other ≡ plain = ap as_plain told ∙ sym is in
    (judged.sc, plan_of plan, (rest, begins, behind), (λ accepts. refused (gap_accepted judged.sc plan closed accepts)), first ∙ ap Some same)
