use Rattle.bound_tree.proofs.Closing.{closed_is_good}
use Rattle.bound_tree.proofs.laws.closed_is_good.Goals as goal

pub returns : goal.returns
returns c = closed_is_good
