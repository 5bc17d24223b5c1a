use Rattle.search_model.proofs.Examples.{worked_values}
use Rattle.search_model.proofs.laws.worked_values.Goals as goal

pub returns : goal.returns
returns c = worked_values
