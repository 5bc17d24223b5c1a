use Rattle.mission_report.proofs.Examples.{worked_map}
use Rattle.mission_report.proofs.laws.worked_maps.Goals as goal

pub returns : goal.returns
returns c = worked_map
