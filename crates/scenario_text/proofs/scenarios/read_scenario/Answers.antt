use Rattle.scenario_text.proofs.Answered.{front_spelled, front_first, front_faulty, front_never_rest, front_text}
use Rattle.scenario_text.proofs.scenarios.read_scenario.Goals as goal

pub returns-clause-spelled : goal.returns-clause-spelled
returns-clause-spelled c = front_text c.args.text.now _ c.read_front-read.ensures

pub returns-clause-exact : goal.returns-clause-exact
returns-clause-exact c = front_spelled c.args.text.now _ c.read_front-read.ensures

pub returns-clause-first : goal.returns-clause-first
returns-clause-first c = front_first c.args.text.now _ c.read_front-read.ensures

pub returns-clause-faulty : goal.returns-clause-faulty
returns-clause-faulty c = front_faulty c.args.text.now _ c.read_front-read.ensures

pub returns-clause-never_rest : goal.returns-clause-never_rest
returns-clause-never_rest c = front_never_rest c.args.text.now _ c.read_front-read.ensures
