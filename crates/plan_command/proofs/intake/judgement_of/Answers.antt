use Rattle.plan_command.proofs.Judging.{judged_input, faulty_input}
use Rattle.plan_command.proofs.intake.judgement_of.Goals as goal

pub returns-in-Ok : goal.returns-in-Ok
returns-in-Ok c = λ task input rest begins tells. judged_input task c.args.sc c.args.plan input rest c.args.said begins tells c.in-Ok.verdict c.in-Ok.is

pub returns-in-Err : goal.returns-in-Err
returns-in-Err c = λ task input rest begins tells. faulty_input task c.args.sc c.args.plan input rest c.args.said begins tells c.in-Err.fault c.in-Err.is
