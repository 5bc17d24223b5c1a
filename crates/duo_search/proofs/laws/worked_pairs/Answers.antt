use Rattle.duo_search.proofs.Examples.{worked_pairs}
use Rattle.duo_search.proofs.laws.worked_pairs.Goals as goal

pub returns : goal.returns
returns c = worked_pairs
