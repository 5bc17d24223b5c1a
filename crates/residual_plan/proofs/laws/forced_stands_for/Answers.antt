use Rattle.residual_plan.proofs.MoveCases.{forced_stands_for}
use Rattle.residual_plan.proofs.laws.forced_stands_for.Goals as goal

pub returns : goal.returns
returns c = forced_stands_for
