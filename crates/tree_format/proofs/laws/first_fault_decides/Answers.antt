use Rattle.tree_format.proofs.FirstFaults.{first_fault_decides}
use Rattle.tree_format.proofs.laws.first_fault_decides.Goals as goal

pub returns : goal.returns
returns c = first_fault_decides
