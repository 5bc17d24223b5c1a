use Rattle.scenario_text.proofs.InRows.{spread_in_rows}
use Rattle.scenario_text.proofs.laws.spread_in_rows.Goals as goal

pub returns : goal.returns
returns c = spread_in_rows
