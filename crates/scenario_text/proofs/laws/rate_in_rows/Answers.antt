use Rattle.scenario_text.proofs.InRows.{rate_in_rows}
use Rattle.scenario_text.proofs.laws.rate_in_rows.Goals as goal

pub returns : goal.returns
returns c = rate_in_rows
