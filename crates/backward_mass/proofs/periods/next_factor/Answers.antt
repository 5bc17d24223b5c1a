use Rattle.std.proofs.Common.{arith}
use Rattle.backward_mass.proofs.RowSteps.{look_within}
use Rattle.backward_mass.proofs.periods.next_factor.Goals as goal

pub factor-requires-clause-position : goal.factor-requires-clause-position
factor-requires-clause-position c = rw c.sweep.ensures.value (look_within c.args.sc.now c.sweep.ensures.sound c.args.looks.now c.requires.path _ (omega (arith, c.requires.more)))
