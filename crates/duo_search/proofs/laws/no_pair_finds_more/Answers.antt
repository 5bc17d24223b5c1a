use Rattle.duo_search.proofs.Values.{no_pair_finds_more}
use Rattle.duo_search.proofs.laws.no_pair_finds_more.Goals as goal

pub returns : goal.returns
returns c = no_pair_finds_more
