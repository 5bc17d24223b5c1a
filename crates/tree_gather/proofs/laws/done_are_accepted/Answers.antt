use Rattle.tree_gather.proofs.Joined.{done_are_accepted}
use Rattle.tree_gather.proofs.laws.done_are_accepted.Goals as goal

pub returns : goal.returns
returns c = done_are_accepted
