use Rattle.std.proofs.Common.{ℕ, List, subst}
use Rattle.plan_command.specs.Intakes.{JudgesRest}
use Rattle.plan_command.proofs.Judging.{front_judged}
use Rattle.plan_command.proofs.intake.judge_behind.Goals as goal

pub returns-in-Ok : goal.returns-in-Ok
returns-in-Ok c =
    front_judged c.args.task c.in-Ok.sc c.args.text.now c.in-Ok.len c.judge_rest.result c.in-Ok.ensures.spelled
    (subst (λ (t : List ℕ). JudgesRest c.args.task c.in-Ok.sc t c.judge_rest.result) c.rest_from.ensures c.judge_rest.ensures)
