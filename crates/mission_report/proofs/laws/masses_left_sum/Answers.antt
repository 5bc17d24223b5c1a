use Rattle.mission_report.proofs.PeriodMasses.{left_is_missed, found_and_left}
use Rattle.mission_report.proofs.laws.masses_left_sum.Goals as goal

pub returns-clause-missed : goal.returns-clause-missed
returns-clause-missed c = left_is_missed

pub returns-clause-whole : goal.returns-clause-whole
returns-clause-whole c = found_and_left
