use Rattle.belief_update.proofs.Rewards.{rewards_by_masses_hold}
use Rattle.belief_update.proofs.laws.rewards_by_masses.Goals as goal

pub returns : goal.returns
returns c = rewards_by_masses_hold
