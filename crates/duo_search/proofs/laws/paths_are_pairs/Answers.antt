use Rattle.duo_search.proofs.PairPaths.{paths_are_pairs}
use Rattle.duo_search.proofs.laws.paths_are_pairs.Goals as goal

pub returns : goal.returns
returns c = paths_are_pairs
