use Rattle.bound_tree.proofs.Longer.{tangent_grows}
use Rattle.bound_tree.proofs.laws.tangent_grows.Goals as goal

pub returns : goal.returns
returns c = tangent_grows
