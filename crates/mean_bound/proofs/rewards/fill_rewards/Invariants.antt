use Rattle.mean_bound.specs.Rewards.{HasRewardsTo}
use Rattle.mean_bound.proofs.rewards.fill_rewards.Given as goal

-- the rewards up to period t
abbrev pub invariant-loop-t : goal.invariant-loop-t
invariant-loop-t l = HasRewardsTo l.sc l.prefix l.t l.rewards
