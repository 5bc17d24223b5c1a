use Rattle.search_model.proofs.MassRewards.{masses_together, rewards_by_drift}
use Rattle.search_model.proofs.Behind.{missed_behind, mean_rewards_are}
use Rattle.search_model.proofs.laws.masses_together.Goals as goal

pub returns : goal.returns
returns c = record { together = masses_together; missed = missed_behind; rewards = mean_rewards_are; drifted = rewards_by_drift }
