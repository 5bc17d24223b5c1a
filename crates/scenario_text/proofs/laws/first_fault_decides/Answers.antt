use Rattle.scenario_text.proofs.FirstFaults.{first_fault_decides}
use Rattle.scenario_text.proofs.laws.first_fault_decides.Goals as goal

pub returns : goal.returns
returns c = first_fault_decides
