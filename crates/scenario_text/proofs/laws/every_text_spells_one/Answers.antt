use Rattle.scenario_text.proofs.OneScenario.{every_text_spells_one}
use Rattle.scenario_text.proofs.laws.every_text_spells_one.Goals as goal

pub returns : goal.returns
returns c = every_text_spells_one
