use Rattle.std.proofs.lemmas.List.{map-set}
use Rattle.scenario_text.proofs.rows.write_look.Goals as goal

pub returns : goal.returns
returns c = map-set _ _ _ _
