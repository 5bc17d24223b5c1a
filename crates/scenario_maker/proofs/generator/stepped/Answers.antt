use Rattle.std.proofs.Common.{arith}
use Rattle.scenario_maker.specs.Generator.{next}
use Rattle.scenario_maker.proofs.generator.stepped.Goals as goal

pub returns : goal.returns
unfolding next
returns c = omega arith
