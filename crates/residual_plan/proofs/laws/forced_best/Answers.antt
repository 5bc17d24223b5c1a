use Rattle.residual_plan.proofs.Carried.{forced_best}
use Rattle.residual_plan.proofs.laws.forced_best.Goals as goal

pub returns : goal.returns
returns c = forced_best
