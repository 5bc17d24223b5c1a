use Rattle.std.proofs.Common.{◌+◌, ◌-◌, slice_index, arith}
use Rattle.search_model.specs.Edge.{edge_reward_of}
use Rattle.edge_bound.proofs.PathSums.{sum_moves-more, sum_moves-none}
use Rattle.edge_bound.proofs.along.sum_after.Goals as goal

pub overflow_add-sum : goal.overflow_add-sum
overflow_add-sum c = rw c.next_reward-sum.ensures.reward (omega (arith, sum_moves-more (edge_reward_of c.args.sc.now c.args.prefix.now) c.args.path.now c.loop-n.n c.loop-n.sum _ c.loop-n-test.true c.loop-n.invariant, c.requires.fits))

pub loop-n-preserved : goal.loop-n-preserved
loop-n-preserved c = rw c.next_reward-sum.ensures.reward (sum_moves-more (edge_reward_of c.args.sc.now c.args.prefix.now) c.args.path.now c.loop-n.n c.loop-n.sum _ c.loop-n-test.true c.loop-n.invariant)

pub returns-clause-sum : goal.returns-clause-sum
returns-clause-sum c =
    let p = c.args.sc.now in
    let n = c.loop-n.n in
    omega (arith, c.loop-n.invariant, sum_moves-none (edge_reward_of p c.args.prefix.now) (n + 1) (slice_index c.args.path.now (n - 1)) n c.args.path.now c.loop-n-test.false)
