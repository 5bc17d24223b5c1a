use Rattle.scenario_text.proofs.Answered.{alone_text, alone_spelled, alone_first, alone_faulty, alone_rest, alone_no_other_rest}
use Rattle.scenario_text.proofs.scenarios.read_scenario_alone.Goals as goal

pub returns-clause-spelled : goal.returns-clause-spelled
returns-clause-spelled c = alone_text c.args.text.now _ c.read_alone-read.ensures

pub returns-clause-exact : goal.returns-clause-exact
returns-clause-exact c = alone_spelled c.args.text.now _ c.read_alone-read.ensures

pub returns-clause-first : goal.returns-clause-first
returns-clause-first c = alone_first c.args.text.now _ c.read_alone-read.ensures

pub returns-clause-faulty : goal.returns-clause-faulty
returns-clause-faulty c = alone_faulty c.args.text.now _ c.read_alone-read.ensures

pub returns-clause-rest : goal.returns-clause-rest
returns-clause-rest c = alone_rest c.args.text.now _ c.read_alone-read.ensures

pub returns-clause-no_other_rest : goal.returns-clause-no_other_rest
returns-clause-no_other_rest c = alone_no_other_rest c.args.text.now _ c.read_alone-read.ensures
