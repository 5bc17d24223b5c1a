use Rattle.belief_update.proofs.Examples.{worked_masses_hold}
use Rattle.belief_update.proofs.laws.worked_masses.Goals as goal

pub returns : goal.returns
returns c = worked_masses_hold
