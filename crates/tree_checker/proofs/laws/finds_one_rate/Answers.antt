use Rattle.tree_checker.proofs.Rates.{finds_one_rate}
use Rattle.tree_checker.proofs.laws.finds_one_rate.Goals as goal

pub returns : goal.returns
returns c = finds_one_rate
