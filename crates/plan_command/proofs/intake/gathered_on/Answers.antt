use Rattle.std.proofs.Common.{◌≡◌, ◌∙◌, ℕ, List, Option, ◌++◌, subst}
use Rattle.plan_command.specs.Intakes.{HasGathered, HasTaken}
use Rattle.plan_command.proofs.Judging.{gathered_rest}
use Rattle.plan_command.proofs.intake.gathered_on.Goals as goal

pub returns-in-Ok-Some : goal.returns-in-Ok-Some
returns-in-Ok-Some c =
    let gathered = subst (λ (o : Option ℕ). HasGathered c.args.text.now.items c.args.piece.now o c.gather.new.text.items) c.in-Ok-Some.field-0-is c.in-Ok-Some.ensures in
    let same : c.deref.result.now ≡ c.gather.new.text.items = cc in
    gathered_rest c.args.task c.args.text.now.items c.args.piece.now c.deref.result.now c.in-Ok-Some.used c.judged_on.result (same ∙ gathered.1)
    (subst (λ (t : List ℕ). HasTaken c.args.task (c.deref.result.now ++ t) c.judged_on.result) c.rest_from.ensures c.judged_on.ensures)
