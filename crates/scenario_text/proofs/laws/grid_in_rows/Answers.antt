use Rattle.scenario_text.proofs.GridRows.{grid_in_rows}
use Rattle.scenario_text.proofs.laws.grid_in_rows.Goals as goal

pub returns : goal.returns
returns c = grid_in_rows
