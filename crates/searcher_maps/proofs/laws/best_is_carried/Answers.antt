use Rattle.searcher_maps.proofs.Carrying.{best_is_told, best_is_carried}
use Rattle.searcher_maps.proofs.laws.best_is_carried.Goals as goal

pub returns-clause-told : goal.returns-clause-told
returns-clause-told c = best_is_told

pub returns-clause-front : goal.returns-clause-front
returns-clause-front c = best_is_carried
