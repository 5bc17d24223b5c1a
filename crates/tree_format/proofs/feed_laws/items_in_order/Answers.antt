use Rattle.tree_format.proofs.FedLaws.{items_in_order}
use Rattle.tree_format.proofs.feed_laws.items_in_order.Goals as goal

pub returns : goal.returns
returns c = items_in_order
