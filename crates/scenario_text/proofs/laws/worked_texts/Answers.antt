use Rattle.scenario_text.proofs.WorkedTexts.{worked_texts}
use Rattle.scenario_text.proofs.laws.worked_texts.Goals as goal

pub returns : goal.returns
returns c = worked_texts
