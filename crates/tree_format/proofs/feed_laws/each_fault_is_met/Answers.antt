use Rattle.tree_format.proofs.FedLaws.{each_fault_is_met}
use Rattle.tree_format.proofs.feed_laws.each_fault_is_met.Goals as goal

pub returns : goal.returns
returns c = each_fault_is_met
