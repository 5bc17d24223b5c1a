use Rattle.std.proofs.Common.{◌≡◌, ◌++◌, map}
use Rattle.drift_chain.specs.DriftRows.{row_of}
use Rattle.period_rows.specs.Changes.{change_of}
use Rattle.searcher_maps.specs.Differing.{changes_in}
use Rattle.searcher_maps.proofs.drifting.add_period.Given as goal

abbrev pub invariant-loop-c : goal.invariant-loop-c
invariant-loop-c l = map change_of l.changes.items ≡ map change_of l.fn.changes.items ++ changes_in (row_of l.drift) l.t l.c
