use Rattle.std.proofs.Common.{◌≡◌, ◌++◌, map}
use Rattle.period_rows.specs.Changes.{change_of}
use Rattle.searcher_maps.specs.Periods.{rows_by_period, row_given}
use Rattle.searcher_maps.specs.Differing.{changes_in}
use Rattle.searcher_maps.proofs.looks.add_period.Given as goal

abbrev pub invariant-loop-a : goal.invariant-loop-a
invariant-loop-a l = map change_of l.changes.items ≡ map change_of l.fn.changes.items ++ changes_in (row_given (rows_by_period l.periods)) l.t l.a
