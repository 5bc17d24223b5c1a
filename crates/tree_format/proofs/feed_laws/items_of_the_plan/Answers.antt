use Rattle.tree_format.proofs.FedLaws.{items_of_the_plan}
use Rattle.tree_format.proofs.feed_laws.items_of_the_plan.Goals as goal

pub returns : goal.returns
returns c = items_of_the_plan
