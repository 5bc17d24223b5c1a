use Rattle.scenario_maker.proofs.Worked.{worked_draws}
use Rattle.scenario_maker.proofs.laws.worked_draws.Goals as goal

pub returns : goal.returns
returns c = worked_draws
