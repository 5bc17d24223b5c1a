use Rattle.searcher_maps.proofs.Behind.{best_of_flown}
use Rattle.searcher_maps.proofs.laws.best_of_flown.Goals as goal

pub returns : goal.returns
returns c = best_of_flown
