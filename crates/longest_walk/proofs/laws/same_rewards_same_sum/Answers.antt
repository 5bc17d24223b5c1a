use Rattle.longest_walk.proofs.Highest as lemmas
use Rattle.longest_walk.proofs.laws.same_rewards_same_sum.Goals as goal

pub returns : goal.returns
returns c = lemmas.same_rewards_same_sum
