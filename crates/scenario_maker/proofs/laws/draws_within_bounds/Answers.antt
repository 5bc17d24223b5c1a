use Rattle.scenario_maker.proofs.Draws.{draws_within_bounds}
use Rattle.scenario_maker.proofs.laws.draws_within_bounds.Goals as goal

pub returns : goal.returns
returns c = draws_within_bounds
