use Rattle.bound_tree.proofs.Closing.{branched_before}
use Rattle.bound_tree.proofs.laws.closed_stays.Goals as goal

pub returns-clause-before : goal.returns-clause-before
returns-clause-before c = branched_before
