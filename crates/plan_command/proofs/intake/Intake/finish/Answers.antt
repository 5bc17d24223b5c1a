use Rattle.plan_command.proofs.Judging.{plan_ends, stopped_ends}
use Rattle.plan_command.proofs.intake.Intake.finish.Goals as goal

pub returns-in-Plan : goal.returns-in-Plan
returns-in-Plan c = λ task input h. c.judged.ensures task input (plan_ends task input c.args.self h c.in-Plan.judge c.in-Plan.is)

pub returns-in-Stopped : goal.returns-in-Stopped
returns-in-Stopped c = λ task input h. stopped_ends task input c.args.self h c.in-Stopped.stop c.in-Stopped.is
