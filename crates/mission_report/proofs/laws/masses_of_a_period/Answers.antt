use Rattle.mission_report.proofs.PeriodMasses.{masses_are_missed, found_and_left_up_to, masses_by_belief}
use Rattle.mission_report.proofs.laws.masses_of_a_period.Goals as goal

pub returns-clause-missed : goal.returns-clause-missed
returns-clause-missed c = masses_are_missed

pub returns-clause-whole : goal.returns-clause-whole
returns-clause-whole c = found_and_left_up_to

pub returns-clause-belief : goal.returns-clause-belief
returns-clause-belief c = masses_by_belief
