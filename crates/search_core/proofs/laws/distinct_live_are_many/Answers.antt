use Rattle.search_core.proofs.Many.{distinct_live_are_many}
use Rattle.search_core.proofs.laws.distinct_live_are_many.Goals as goal

pub returns : goal.returns
returns c = distinct_live_are_many
