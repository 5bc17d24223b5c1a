use Rattle.backward_mass.proofs.Meeting.{gain_by_cell}
use Rattle.backward_mass.proofs.laws.gain_by_cell.Goals as goal

pub returns : goal.returns
returns c = gain_by_cell
