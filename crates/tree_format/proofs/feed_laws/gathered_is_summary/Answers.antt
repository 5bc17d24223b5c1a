use Rattle.tree_format.proofs.FedLaws.{gathered_is_summary}
use Rattle.tree_format.proofs.feed_laws.gathered_is_summary.Goals as goal

pub returns : goal.returns
returns c = gathered_is_summary
