use Rattle.backward_mass.proofs.Meeting.{missed_by_cell}
use Rattle.backward_mass.proofs.laws.missed_by_cell.Goals as goal

pub returns : goal.returns
returns c = missed_by_cell
