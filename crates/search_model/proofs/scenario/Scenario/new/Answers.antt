use Rattle.search_model.proofs.FaultLemmas.{faultless}
use Rattle.search_model.proofs.scenario.Scenario.new.Goals as goal

pub returns-in-None-clause-sound : goal.returns-in-None-clause-sound
returns-in-None-clause-sound c = faultless c.args.parts c.in-None.ensures.none
