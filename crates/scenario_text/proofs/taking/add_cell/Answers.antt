use Rattle.scenario_text.specs.State.{state_of}
use Rattle.scenario_text.proofs.NewNames.{cell_fault, cell_added, name_new}
use Rattle.scenario_text.proofs.taking.add_cell.Goals as goal

pub returns-in-Some : goal.returns-in-Some
returns-in-Some c = cell_fault (state_of c.args.draft.now) c.args.name.now c.in-Some.kind c.in-Some.ensures

pub push_cell-requires : goal.push_cell-requires
push_cell-requires c = name_new _ c.args.name.now c.in-None.ensures

pub returns-in-None : goal.returns-in-None
returns-in-None c = rw (cell_added (state_of c.args.draft.now) c.args.name.now c.in-None.ensures) c.push_cell.ensures
