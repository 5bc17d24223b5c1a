use Rattle.std.proofs.Common.{◌≡◌, map, take}
use Rattle.period_rows.specs.Changes.{change_of}
use Rattle.scenario_text.specs.State.{period_row_of}
use Rattle.scenario_text.specs.Scenarios.{look_change_of}
use Rattle.scenario_text.proofs.sweeps.look_changes.Given as goal

abbrev pub invariant-loop-row : goal.invariant-loop-row
invariant-loop-row l = map change_of l.changes.items ≡ map look_change_of (map period_row_of (take l.row-index l.rows))
