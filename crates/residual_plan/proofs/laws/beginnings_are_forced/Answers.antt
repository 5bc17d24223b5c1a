use Rattle.residual_plan.proofs.Beginnings.{beginnings_are_forced}
use Rattle.residual_plan.proofs.laws.beginnings_are_forced.Goals as goal

pub returns : goal.returns
returns c = beginnings_are_forced
