use Rattle.searcher_maps.proofs.Examples.{worked_teams}
use Rattle.searcher_maps.proofs.laws.worked_teams.Goals as goal

pub returns : goal.returns
returns c = worked_teams
