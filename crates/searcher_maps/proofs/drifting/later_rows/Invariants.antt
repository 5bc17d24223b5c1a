use Rattle.std.proofs.Common.{◌≡◌, ◌≤◌, ◌-◌, map}
use Rattle.drift_chain.specs.DriftRows.{row_of, drift_cells}
use Rattle.period_rows.specs.Changes.{change_of}
use Rattle.searcher_maps.specs.Differing.{later_changes}
use Rattle.searcher_maps.proofs.drifting.later_rows.Given as goal

abbrev pub invariant-loop-t : goal.invariant-loop-t
invariant-loop-t l = (map change_of l.changes.items ≡ later_changes (row_of l.drift) (drift_cells l.drift) l.t) × (l.t - 2 ≤ l.end - 2)
