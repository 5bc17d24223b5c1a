use Rattle.scenario_maker.proofs.Prefixes.{few_made_prefixes}
use Rattle.scenario_maker.proofs.laws.few_made_prefixes.Goals as goal

pub returns : goal.returns
returns c = few_made_prefixes
