use Rattle.plan_command.proofs.Judging.{lacks_front}
use Rattle.plan_command.proofs.intake.judged_text.Goals as goal

pub returns-in-Ok : goal.returns-in-Ok
returns-in-Ok c = c.judged.ensures c.args.task c.args.text.now c.in-Ok.ensures

pub returns-in-Err : goal.returns-in-Err
returns-in-Err c = lacks_front c.args.task c.args.text.now c.in-Err.stop c.in-Err.ensures
