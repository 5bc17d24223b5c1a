use Rattle.backward_mass.proofs.Meeting.{missed_in_each_period}
use Rattle.backward_mass.proofs.laws.missed_in_each_period.Goals as goal

pub returns : goal.returns
returns c = missed_in_each_period
