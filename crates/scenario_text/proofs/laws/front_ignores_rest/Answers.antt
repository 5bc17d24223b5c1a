use Rattle.scenario_text.proofs.EndLines.{front_ignores_rest}
use Rattle.scenario_text.proofs.laws.front_ignores_rest.Goals as goal

pub returns : goal.returns
returns c = front_ignores_rest
