use Rattle.residual_plan.proofs.WorkedByHand.{worked_forced}
use Rattle.residual_plan.proofs.laws.worked_forced.Goals as goal

pub returns : goal.returns
returns c = worked_forced
