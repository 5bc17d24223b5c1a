use Rattle.tree_format.proofs.FedLaws.{fault_is_last}
use Rattle.tree_format.proofs.feed_laws.fault_is_last.Goals as goal

pub returns : goal.returns
returns c = fault_is_last
