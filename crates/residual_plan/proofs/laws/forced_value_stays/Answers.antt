use Rattle.residual_plan.proofs.Carried.{value_stays}
use Rattle.residual_plan.proofs.laws.forced_value_stays.Goals as goal

pub returns : goal.returns
returns c = value_stays
