use Rattle.searcher_maps.proofs.Following.{team_follows}
use Rattle.searcher_maps.proofs.laws.team_follows.Goals as goal

pub returns : goal.returns
returns c = team_follows
