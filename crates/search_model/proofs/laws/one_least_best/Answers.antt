use Rattle.search_model.proofs.LeastBest.{one_least_best}
use Rattle.search_model.proofs.laws.one_least_best.Goals as goal

pub returns : goal.returns
returns c = one_least_best
