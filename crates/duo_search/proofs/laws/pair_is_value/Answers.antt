use Rattle.duo_search.proofs.Values.{pair_is_value}
use Rattle.duo_search.proofs.laws.pair_is_value.Goals as goal

pub returns : goal.returns
returns c = pair_is_value
