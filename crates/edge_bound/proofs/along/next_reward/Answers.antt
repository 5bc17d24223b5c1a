use Rattle.std.proofs.Common.{arith}
use Rattle.edge_bound.proofs.Through.{taken_of_reward}
use Rattle.edge_bound.proofs.along.next_reward.Goals as goal

pub overflow_sub-result : goal.overflow_sub-result
overflow_sub-result c =
    let is = taken_of_reward c.args.sc.now c.args.prefix.now c.args.t c.args.b c.recall_sound.ensures c.requires.period.later c.requires.period.last c.args.a in
    rw (c.reward_without-reward.ensures, c.taken.ensures.loss) (omega (arith, is))

pub returns-clause-reward : goal.returns-clause-reward
returns-clause-reward c =
    let is = taken_of_reward c.args.sc.now c.args.prefix.now c.args.t c.args.b c.recall_sound.ensures c.requires.period.later c.requires.period.last c.args.a in
    rw (c.reward_without-reward.ensures, c.taken.ensures.loss) (omega (arith, is))
