use Rattle.tree_gather.proofs.Joined.{joined_are_live, waiting_have_more}
use Rattle.tree_gather.proofs.laws.joined_are_live.Goals as goal

pub returns-clause-live : goal.returns-clause-live
returns-clause-live c = joined_are_live

pub returns-clause-more : goal.returns-clause-more
returns-clause-more c = waiting_have_more
