use Rattle.bound_tree.proofs.SameLive.{closed_same, live_same, more_live_same}
use Rattle.bound_tree.proofs.laws.same_search_same_live.Goals as goal

pub returns : goal.returns
returns c = record { closed = closed_same; live = live_same; more = more_live_same }
