use Rattle.residual_plan.proofs.Carried.{forced_is_one, same_is_forced}
use Rattle.residual_plan.proofs.laws.forced_is_one.Goals as goal

pub returns-clause-one : goal.returns-clause-one
returns-clause-one c = forced_is_one

pub returns-clause-same : goal.returns-clause-same
returns-clause-same c = same_is_forced
