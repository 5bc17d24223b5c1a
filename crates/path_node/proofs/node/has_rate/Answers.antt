use Rattle.path_node.proofs.Rates.{rate_told}
use Rattle.path_node.proofs.node.has_rate.Goals as goal

pub returns : goal.returns
returns c = λ p made. rw (c.is_some.ensures, c.rate.ensures) (rate_told p c.args.tangent.now.rate made.rate)
