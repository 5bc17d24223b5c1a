use Rattle.scenario_text.specs.State.{state_of}
use Rattle.scenario_text.proofs.NewNames.{position_fault, position_added, name_new}
use Rattle.scenario_text.proofs.taking.add_position.Goals as goal

pub returns-in-Some : goal.returns-in-Some
returns-in-Some c = position_fault (state_of c.args.draft.now) c.args.name.now c.in-Some.kind c.in-Some.ensures

pub push_position-requires : goal.push_position-requires
push_position-requires c = name_new _ c.args.name.now c.in-None.ensures

pub returns-in-None : goal.returns-in-None
returns-in-None c = rw (position_added (state_of c.args.draft.now) c.args.name.now c.in-None.ensures) c.push_position.ensures
