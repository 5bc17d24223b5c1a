use Rattle.std.proofs.Common.{sym, subst}
use Rattle.std.specs.Prelude.{Err}
use Rattle.plan_command.specs.declared.status.Stop.{Stop}
use Rattle.plan_command.specs.Intakes.{GoesOn}
use Rattle.plan_command.proofs.Judging.{goes_wrong}
use Rattle.plan_command.proofs.intake.going_on.Goals as goal

pub returns-in-Ok : goal.returns-in-Ok
returns-in-Ok c = λ task. (c.take.ensures.scenario, c.in-Ok.ensures.taken task)

pub returns-in-Err : goal.returns-in-Err
returns-in-Err c = λ task.
    subst (λ (stop : Stop). GoesOn task c.args.judge c.args.more.now (Err stop)) (sym c.stop_by.ensures) (goes_wrong task c.args.judge c.args.more.now c.in-Err.stop c.in-Err.ensures.fault)
