use Rattle.scenario_maker.proofs.Prefixes.{few_prefixes}
use Rattle.scenario_maker.proofs.laws.few_prefixes.Goals as goal

pub returns : goal.returns
returns c = few_prefixes
