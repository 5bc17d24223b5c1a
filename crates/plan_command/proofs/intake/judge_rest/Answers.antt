use Rattle.std.proofs.Common.{[]}
use Rattle.plan_command.proofs.Judging.{rest_gone}
use Rattle.plan_command.proofs.intake.judge_rest.Goals as goal

pub going_on-requires : goal.going_on-requires
going_on-requires c = (c.args.task, [], c.in-Ok.ensures.nothing)

pub returns-in-Ok : goal.returns-in-Ok
returns-in-Ok c = rest_gone c.args.task c.args.sc c.args.rest.now c.in-Ok.judge c.going_on.result c.in-Ok.ensures.scenario c.in-Ok.ensures.nothing (c.going_on.ensures c.args.task)
