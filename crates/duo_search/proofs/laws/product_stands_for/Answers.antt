use Rattle.duo_search.proofs.PairPaths.{stands_for_both}
use Rattle.duo_search.proofs.laws.product_stands_for.Goals as goal

pub returns : goal.returns
returns c = stands_for_both
