use Rattle.searcher_maps.proofs.Finding.{missed_by_team}
use Rattle.searcher_maps.proofs.laws.missed_by_team.Goals as goal

pub returns : goal.returns
returns c = missed_by_team
