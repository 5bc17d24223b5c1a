use Rattle.tree_format.proofs.FedPieces.{nothing_read}
use Rattle.tree_format.proofs.feed.PlanFeed.start.Goals as goal

pub returns : goal.returns
returns c = nothing_read c.args.family c.args.sc.now c.in_ok-due.due c.empty-2.result c.in_ok-line.line c.in_ok-due.ensures c.empty-2.ensures c.in_ok-line.ensures
