use Rattle.plan_command.proofs.Verdicts.{check_made}
use Rattle.plan_command.proofs.checking.answer_check.Goals as goal

pub returns : goal.returns
returns c = λ words input judges. check_made words input c.args.judgement _ c.tell_verdict.ensures judges
