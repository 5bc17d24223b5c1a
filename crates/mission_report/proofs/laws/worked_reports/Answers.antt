use Rattle.mission_report.proofs.Examples.{worked_report, worked_waiting}
use Rattle.mission_report.proofs.laws.worked_reports.Goals as goal

pub returns-clause-two : goal.returns-clause-two
returns-clause-two c = worked_report

pub returns-clause-waiting : goal.returns-clause-waiting
returns-clause-waiting c = worked_waiting
