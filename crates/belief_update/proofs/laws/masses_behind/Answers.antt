use Rattle.belief_update.proofs.Forward.{masses_forward, masses_drift}
use Rattle.belief_update.proofs.laws.masses_behind.Goals as goal

pub returns-clause-forward : goal.returns-clause-forward
returns-clause-forward c = masses_forward

pub returns-clause-drift : goal.returns-clause-drift
returns-clause-drift c = masses_drift
