use Rattle.search_model.proofs.Totals.{weights_sum}
use Rattle.search_model.proofs.laws.weights_sum.Goals as goal

pub returns : goal.returns
returns c = weights_sum
