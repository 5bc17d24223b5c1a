use Rattle.search_model.proofs.Best.{one_best}
use Rattle.search_model.proofs.laws.one_best.Goals as goal

pub returns : goal.returns
returns c = one_best
