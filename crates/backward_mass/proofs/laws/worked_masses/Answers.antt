use Rattle.backward_mass.proofs.Examples.{worked_masses_hold}
use Rattle.backward_mass.proofs.laws.worked_masses.Goals as goal

pub returns : goal.returns
returns c = worked_masses_hold
