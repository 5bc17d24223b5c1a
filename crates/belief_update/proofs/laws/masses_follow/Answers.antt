use Rattle.std.proofs.Common.{sym}
use Rattle.belief_update.proofs.MassSteps.{mass_of-look}
use Rattle.belief_update.proofs.BeliefSteps.{drift_mass_at}
use Rattle.belief_update.proofs.laws.masses_follow.Goals as goal

pub returns-clause-look : goal.returns-clause-look
returns-clause-look c = mass_of-look

pub returns-clause-drift : goal.returns-clause-drift
returns-clause-drift c p looks t d long some = sym (drift_mass_at p looks t d long some)
