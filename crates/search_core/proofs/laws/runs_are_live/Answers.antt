use Rattle.search_core.proofs.Good.{runs_are_live}
use Rattle.search_core.proofs.laws.runs_are_live.Goals as goal

pub returns : goal.returns
returns c = runs_are_live
