use Rattle.std.proofs.Common.{false, refl}
use Rattle.plan_command.proofs.Verdicts.{reported_path, report_told, plan_rejected}
use Rattle.plan_command.proofs.checking.answer_report.Goals as goal

pub report-requires : goal.report-requires
report-requires c = reported_path c.requires.0 c.args.judgement.now c.in-Accepted.is c.requires.1

pub returns-in_ok-report-in-Accepted : goal.returns-in_ok-report-in-Accepted
returns-in_ok-report-in-Accepted c = λ words input judges. report_told words input c.args.judgement.now c.args.json _ _ c.in-Accepted.is refl c.in_ok-report-in-Accepted.ensures judges

pub returns-in-Rejected : goal.returns-in-Rejected
returns-in-Rejected c = λ words input judges. (tt, plan_rejected false input c.args.judgement.now c.in-Rejected.at c.as_plain.result c.in-Rejected.is c.as_plain.ensures judges)
