use Rattle.std.proofs.Common.{◌+◌, arith}
use Rattle.longest_walk.specs.Sums.{entry_at}
use Rattle.tangent_bound.proofs.RowSteps.{sum_along-more, sum_along-none}
use Rattle.tangent_bound.proofs.gains.sum_after.Goals as goal

pub overflow_add-sum-in-loop-n : goal.overflow_add-sum-in-loop-n
overflow_add-sum-in-loop-n c =
    let more = sum_along-more c.args.positions c.args.gains.now c.args.path.now c.loop-n.n c.loop-n.sum _ c.loop-n-test.true c.loop-n.invariant in
    rw (c.from.ensures, c.from-in-loop-n.ensures) (omega (arith, more, c.requires.fits))

pub loop-n-preserved : goal.loop-n-preserved
loop-n-preserved c =
    rw (c.from.ensures, c.from-in-loop-n.ensures)
    (sum_along-more c.args.positions c.args.gains.now c.args.path.now c.loop-n.n c.loop-n.sum _ c.loop-n-test.true c.loop-n.invariant)

pub returns : goal.returns
returns c = omega (arith, c.loop-n.invariant, sum_along-none (entry_at c.args.positions c.args.gains.now) (c.loop-n.n + 1) c.loop-n.n c.args.path.now c.loop-n-test.false)
