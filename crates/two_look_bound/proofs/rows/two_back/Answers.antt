use Rattle.std.proofs.Common.{◌+◌, refl, arith}
use Rattle.two_look_bound.proofs.rows.two_back.Goals as goal

pub step_back-requires-clause-period : goal.step_back-requires-clause-period
step_back-requires-clause-period c = record {
  later = omega (arith, c.requires.first);
  last = c.requires.last;
}

pub step_back-requires-2-clause-period : goal.step_back-requires-2-clause-period
step_back-requires-2-clause-period c = record {
  later = omega (arith, c.requires.first);
  last = omega (arith, c.requires.last);
}

pub step_back-requires-2-clause-pairs : goal.step_back-requires-2-clause-pairs
step_back-requires-2-clause-pairs c more = c.step_back.ensures.pairs (c.args.s + 1) (omega arith)

pub returns-clause-pairs : goal.returns-clause-pairs
returns-clause-pairs c = c.step_back-2.ensures.pairs c.args.s refl
