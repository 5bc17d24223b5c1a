use Rattle.std.proofs.Common.{◌≡◌, ◌≤◌, ◌+◌, ◌-◌, length, map}
use Rattle.period_rows.specs.Changes.{change_of}
use Rattle.searcher_maps.specs.Periods.{rows_by_period, row_given}
use Rattle.searcher_maps.specs.Differing.{later_changes}
use Rattle.searcher_maps.proofs.looks.later_rows.Given as goal

abbrev pub invariant-loop-t : goal.invariant-loop-t
invariant-loop-t l = (map change_of l.changes.items ≡ later_changes (row_given (rows_by_period l.periods)) l.positions l.t) × (l.t - 2 ≤ length l.periods + 1 - 2)
