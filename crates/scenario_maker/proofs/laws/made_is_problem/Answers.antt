use Rattle.scenario_maker.proofs.Problems.{made_is_problem}
use Rattle.scenario_maker.proofs.laws.made_is_problem.Goals as goal

pub returns : goal.returns
returns c = made_is_problem
