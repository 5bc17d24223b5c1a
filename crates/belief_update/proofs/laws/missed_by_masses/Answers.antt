use Rattle.belief_update.proofs.Missed.{missed_by_masses_hold}
use Rattle.belief_update.proofs.laws.missed_by_masses.Goals as goal

pub returns : goal.returns
returns c = missed_by_masses_hold
