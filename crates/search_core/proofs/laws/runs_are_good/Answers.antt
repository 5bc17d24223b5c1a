use Rattle.search_core.proofs.Good.{runs_are_good}
use Rattle.search_core.proofs.laws.runs_are_good.Goals as goal

pub returns : goal.returns
returns c = runs_are_good
