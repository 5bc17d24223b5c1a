use Rattle.std.proofs.Common.{◌++◌, sym, subst}
use Rattle.plan_command.specs.Intakes.{HasTaken}
use Rattle.plan_command.proofs.Judging.{judged_far, lacks_on}
use Rattle.plan_command.proofs.intake.judged_on.Goals as goal

pub going_on-requires : goal.going_on-requires
going_on-requires c = (c.args.task, c.in-Ok.ensures.rest, c.in-Ok.ensures.taken)

pub returns-in-Ok : goal.returns-in-Ok
returns-in-Ok c =
    subst (HasTaken c.args.task (c.args.text.now ++ c.args.more.now)) (sym c.intake_of.ensures)
    (judged_far c.args.task c.args.text.now c.args.more.now c.in-Ok.judge c.going_on.result c.requires c.in-Ok.ensures (c.going_on.ensures c.args.task))

pub returns-in-Err : goal.returns-in-Err
returns-in-Err c = lacks_on c.args.task c.args.text.now c.args.more.now c.in-Err.stop c.requires c.in-Err.ensures
