use Rattle.std.proofs.Common.{map, refl}
use Rattle.text_rows.specs.Fields.{fields_of}
use Rattle.scenario_text.specs.State.{state_of}
use Rattle.scenario_text.specs.declared.line.Line.TheVariants.{Scenario, Horizon, Parts, Cell, Position, Grid, Start, Moves, Overlook, Spread, Rate, End}
use Rattle.scenario_text.proofs.FirstFields.{front_taken}
use Rattle.scenario_text.proofs.taking_line.take_due.Goals as goal

pub returns-in-Scenario : goal.returns-in-Scenario
returns-in-Scenario c = front_taken c.take_version.new.draft c.take_version.result (state_of c.args.draft.now) c.args.line Scenario (fields_of c.args.text.now) (map (λ f. f.now) c.args.fields.now) c.in-Scenario.is refl c.requires.front c.take_version.ensures

pub returns-in-Horizon : goal.returns-in-Horizon
returns-in-Horizon c = front_taken c.take_horizon.new.draft c.take_horizon.result (state_of c.args.draft.now) c.args.line Horizon (fields_of c.args.text.now) (map (λ f. f.now) c.args.fields.now) c.in-Horizon.is refl c.requires.front c.take_horizon.ensures

pub returns-in-Parts : goal.returns-in-Parts
returns-in-Parts c = front_taken c.take_parts.new.draft c.take_parts.result (state_of c.args.draft.now) c.args.line Parts (fields_of c.args.text.now) (map (λ f. f.now) c.args.fields.now) c.in-Parts.is refl c.requires.front c.take_parts.ensures

pub returns-in-Cell : goal.returns-in-Cell
returns-in-Cell c = front_taken c.take_cell.new.draft c.take_cell.result (state_of c.args.draft.now) c.args.line Cell (fields_of c.args.text.now) (map (λ f. f.now) c.args.fields.now) c.in-Cell.is refl c.requires.front c.take_cell.ensures

pub returns-in-Position : goal.returns-in-Position
returns-in-Position c = front_taken c.take_position.new.draft c.take_position.result (state_of c.args.draft.now) c.args.line Position (fields_of c.args.text.now) (map (λ f. f.now) c.args.fields.now) c.in-Position.is refl c.requires.front c.take_position.ensures

pub returns-in-Grid : goal.returns-in-Grid
returns-in-Grid c = front_taken c.take_grid.new.draft c.take_grid.result (state_of c.args.draft.now) c.args.line Grid (fields_of c.args.text.now) (map (λ f. f.now) c.args.fields.now) c.in-Grid.is refl c.requires.front c.take_grid.ensures

pub returns-in-Start : goal.returns-in-Start
returns-in-Start c = front_taken c.take_start.new.draft c.take_start.result (state_of c.args.draft.now) c.args.line Start (fields_of c.args.text.now) (map (λ f. f.now) c.args.fields.now) c.in-Start.is refl c.requires.front c.take_start.ensures

pub returns-in-Moves : goal.returns-in-Moves
returns-in-Moves c = front_taken c.take_moves.new.draft c.take_moves.result (state_of c.args.draft.now) c.args.line Moves (fields_of c.args.text.now) (map (λ f. f.now) c.args.fields.now) c.in-Moves.is refl c.requires.front c.take_moves.ensures

pub returns-in-Overlook : goal.returns-in-Overlook
returns-in-Overlook c = front_taken c.take_overlook.new.draft c.take_overlook.result (state_of c.args.draft.now) c.args.line Overlook (fields_of c.args.text.now) (map (λ f. f.now) c.args.fields.now) c.in-Overlook.is refl c.requires.front c.take_overlook.ensures

pub returns-in-Spread : goal.returns-in-Spread
returns-in-Spread c = front_taken c.take_spread.new.draft c.take_spread.result (state_of c.args.draft.now) c.args.line Spread (fields_of c.args.text.now) (map (λ f. f.now) c.args.fields.now) c.in-Spread.is refl c.requires.front c.take_spread.ensures

pub returns-in-Rate : goal.returns-in-Rate
returns-in-Rate c = front_taken c.take_rate.new.draft c.take_rate.result (state_of c.args.draft.now) c.args.line Rate (fields_of c.args.text.now) (map (λ f. f.now) c.args.fields.now) c.in-Rate.is refl c.requires.front c.take_rate.ensures

pub returns-in-End : goal.returns-in-End
returns-in-End c = front_taken c.take_end.new.draft c.take_end.result (state_of c.args.draft.now) c.args.line End (fields_of c.args.text.now) (map (λ f. f.now) c.args.fields.now) c.in-End.is refl c.requires.front c.take_end.ensures
