use Rattle.plan_command.proofs.Verdicts.{gap_check_made}
use Rattle.plan_command.proofs.checking.answer_check_gap.Goals as goal

pub returns : goal.returns
returns c = λ words input judges. gap_check_made words input c.args.judgement _ c.tell_verdict.ensures judges
