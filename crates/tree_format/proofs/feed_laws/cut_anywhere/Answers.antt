use Rattle.tree_format.proofs.FedLaws.{cut_anywhere}
use Rattle.tree_format.proofs.feed_laws.cut_anywhere.Goals as goal

pub returns : goal.returns
returns c = cut_anywhere
