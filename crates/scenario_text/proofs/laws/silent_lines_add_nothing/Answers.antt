use Rattle.scenario_text.proofs.FirstFaults.{silent_lines_add_nothing}
use Rattle.scenario_text.proofs.laws.silent_lines_add_nothing.Goals as goal

pub returns : goal.returns
returns c = silent_lines_add_nothing
