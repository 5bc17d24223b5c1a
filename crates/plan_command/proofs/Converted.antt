-- What is written of a plan that is accepted and kept.
use Rattle.std.proofs.Common.{ℕ, ◌≡◌, List, [], ◌∷◌, Ok, sym, subst}
use Rattle.bound_tree.specs.declared.plan.Plan.{Plan}
use Rattle.bound_tree.specs.Gaps.{plan_of}
use Rattle.bound_tree.specs.Places.{AreInPlace}
use Rattle.tree_format.specs.Dialects.{plan_dialect_for}
use Rattle.tree_format.specs.PlanText.{IsPrintable, HasLetters, IsWrittenPlan}
use Rattle.tree_format.proofs.Answered.{printable_read}
use Rattle.tree_checker.specs.declared.gap_verdict.GapVerdict.TheVariants.{Accepted}
use Rattle.plan_command.specs.declared.intake.Judgement.{Judgement}
use Rattle.plan_command.specs.declared.request.Request.TheVariants.{Convert}
use Rattle.plan_command.specs.declared.status.Status.{Status}
use Rattle.plan_command.specs.declared.status.Status.TheVariants.{Done}
use Rattle.plan_command.specs.Commands.{Answers}
use Rattle.plan_command.specs.Intakes.{JudgesAs, keeping_plans}
use Rattle.plan_command.proofs.Printing.{accepted_in_place}
use Rattle.plan_command.proofs.Versions.{plan_serves, accepted_lettered}
use Rattle.plan_command.proofs.Verdicts.{plan_accepted}

module _ (input : List ℕ) (judged : Judgement) (judges : JudgesAs keeping_plans input (Ok judged)) where
  pub kept_printable : IsPrintable judged.sc judged.plan
  kept_printable =
      let (plan, (rest, begins, (behind, closed)), on, kept) = judges in
      subst (IsPrintable judged.sc) (sym kept) (printable_read judged.sc (plan_of plan) behind.text behind.spelled)

  pub kept_lettered : judged.verdict ≡ Accepted → HasLetters (plan_dialect_for judged.sc) judged.plan
  kept_lettered accepted =
      let (plan, (rest, begins, (behind, closed)), on, kept) = judges in
      let v = plan_dialect_for judged.sc in
      subst (HasLetters v) (sym kept) (accepted_lettered v judged.sc (plan_of plan) (plan_serves judged.sc) (plan_accepted judged.sc plan closed (on.accepted.0 accepted)))

  pub kept_in_place : judged.verdict ≡ Accepted → AreInPlace judged.sc ([] ∷ []) judged.plan.tree
  kept_in_place accepted =
      let (plan, (rest, begins, (behind, closed)), on, kept) = judges in
      subst (λ (k : Plan). AreInPlace judged.sc ([] ∷ []) k.tree) (sym kept) (accepted_in_place judged.sc (plan_of plan) (plan_accepted judged.sc plan closed (on.accepted.0 accepted)))

  pub kept_converted : (words : List (List ℕ)) (status : Status) (text : List ℕ) → judged.verdict ≡ Accepted → status ≡ Done → IsWrittenPlan judged.sc judged.plan text → Answers words Convert input status text
  kept_converted words status text accepted done spelled =
      let (plan, (rest, begins, (behind, closed)), on, kept) = judges in
      (judged.sc, plan_of plan, (rest, begins, behind), (done, plan_accepted judged.sc plan closed (on.accepted.0 accepted), subst (λ (k : Plan). IsWrittenPlan judged.sc k text) kept spelled))
