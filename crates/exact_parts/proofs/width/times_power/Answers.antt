use Rattle.std.proofs.Common.{◌*◌, ◌^◌, ◌≤◌, arith, add-one}
use Rattle.std.proofs.Math.Nat.{pow-suc}
use Rattle.exact_parts.proofs.Widths.{wide}
use Rattle.exact_parts.proofs.width.times_power.Goals as goal

pub returns-in_default : goal.returns-in_default
returns-in_default c = λ small.
    let far : 2 ^ 127 ≤ c.args.start * c.args.base ^ c.loop-k._k * c.args.base = rw (← c.loop-k.invariant.is) (omega (arith, c.in-Some.ensures, c.if-next-lt-LIMIT.false)) in
    omega (arith, wide c.args.start c.args.base c.loop-k._k c.args.n c.requires.base c.loop-k-test.true far)

pub returns-in_default-2 : goal.returns-in_default-2
returns-in_default-2 c = λ small.
    let far : 2 ^ 127 ≤ c.args.start * c.args.base ^ c.loop-k._k * c.args.base = rw (← c.loop-k.invariant.is) (omega (arith, c.in_default.ensures)) in
    omega (arith, wide c.args.start c.args.base c.loop-k._k c.args.n c.requires.base c.loop-k-test.true far)

pub loop-k-preserved : goal.loop-k-preserved
loop-k-preserved c = record {
  is = rw (add-one c.loop-k._k, pow-suc c.args.base c.loop-k._k, c.in-Some.ensures.1, c.loop-k.invariant.is) (omega arith);
  small = c.if-next-lt-LIMIT.true;
}
