use Rattle.backward_mass.proofs.Meeting.{look_apart}
use Rattle.backward_mass.proofs.laws.look_apart.Goals as goal

pub returns : goal.returns
returns c = look_apart
