use Rattle.residual_plan.proofs.Beginnings.{paths_begin}
use Rattle.residual_plan.proofs.laws.forced_paths_begin.Goals as goal

pub returns : goal.returns
returns c = paths_begin
