use Rattle.std.proofs.Common.{rules}
use Rattle.scenario_maker.specs.Generator.{draw_below}
use Rattle.scenario_maker.proofs.generator.Generator.draw_below.Goals as goal

pub returns-clause-drawn : goal.returns-clause-drawn
unfolding draw_below
returns-clause-drawn c = search rules
