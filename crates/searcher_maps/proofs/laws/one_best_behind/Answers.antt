use Rattle.searcher_maps.proofs.Behind.{one_best_behind}
use Rattle.searcher_maps.proofs.laws.one_best_behind.Goals as goal

pub returns : goal.returns
returns c = one_best_behind
