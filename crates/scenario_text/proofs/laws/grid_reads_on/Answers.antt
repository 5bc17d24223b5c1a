use Rattle.scenario_text.proofs.GridRows.{grid_reads_on}
use Rattle.scenario_text.proofs.laws.grid_reads_on.Goals as goal

pub returns : goal.returns
returns c = grid_reads_on
