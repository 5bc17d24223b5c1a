use Rattle.residual_plan.proofs.Beginnings.{order_stays}
use Rattle.residual_plan.proofs.laws.forced_order_stays.Goals as goal

pub returns : goal.returns
returns c = order_stays
