use Rattle.std.proofs.Common.{refl, arith}
use Rattle.two_look_bound.proofs.rows.start_back.Goals as goal

pub returns-then-s-horizon-clause-pairs : goal.returns-then-s-horizon-clause-pairs
returns-then-s-horizon-clause-pairs c more = absurd (omega (arith, more, c.if-s-horizon.true, c.horizon.ensures.value))

pub step_back-requires-clause-period : goal.step_back-requires-clause-period
step_back-requires-clause-period c = record {
  later = omega (arith, c.requires.first);
  last = omega (arith, c.if-s-horizon.false, c.horizon.ensures.value, c.requires.last);
}

pub step_back-requires-clause-pairs : goal.step_back-requires-clause-pairs
step_back-requires-clause-pairs c more = absurd (omega (arith, more, c.requires.end))

pub returns-clause-pairs : goal.returns-clause-pairs
returns-clause-pairs c more = c.step_back.ensures.pairs c.args.s refl
