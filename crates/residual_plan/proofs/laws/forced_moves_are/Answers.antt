use Rattle.residual_plan.proofs.MoveLists.{moves_are}
use Rattle.residual_plan.proofs.laws.forced_moves_are.Goals as goal

pub returns : goal.returns
returns c = moves_are
