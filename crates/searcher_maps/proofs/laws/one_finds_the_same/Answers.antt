use Rattle.searcher_maps.proofs.Finding.{one_finds_the_same}
use Rattle.searcher_maps.proofs.laws.one_finds_the_same.Goals as goal

pub returns : goal.returns
returns c = one_finds_the_same
