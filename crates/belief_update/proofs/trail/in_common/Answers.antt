use Rattle.std.proofs.Common.{arith}
use Rattle.belief_update.proofs.TrailSteps.{common_none}
use Rattle.belief_update.proofs.trail.in_common.Goals as goal

pub returns : goal.returns
returns c =
    let none = common_none c.args.left.now c.args.right.now c.loop-i.i (omega (arith, c.loop-i-test.false, c.min-most.ensures)) in
    omega (arith, c.loop-i.invariant, c.loop-i.auto.i-end, none)
