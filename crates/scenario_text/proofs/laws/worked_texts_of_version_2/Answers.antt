use Rattle.scenario_text.proofs.WorkedTexts.{worked_two}
use Rattle.scenario_text.proofs.laws.worked_texts_of_version_2.Goals as goal

pub returns : goal.returns
returns c = worked_two
