use Rattle.period_rows.specs.Changes.{change_of}
use Rattle.searcher_maps.specs.Periods.{rows_by_period, row_given}
use Rattle.searcher_maps.specs.Differing.{change_to}
use Rattle.searcher_maps.proofs.Changed.{no_owner, owner_more}
use Rattle.searcher_maps.proofs.looks.add_period.Goals as goal
use Rattle.period_rows.specs.Rows.{is_same_row}

pub loop-a-init : goal.loop-a-init
loop-a-init c = no_owner change_of is_same_row change_to (row_given (rows_by_period c.args.periods.now)) c.args.changes.now.items c.args.t

pub loop-a-preserved : goal.loop-a-preserved
loop-a-preserved c =
    owner_more change_of is_same_row change_to (row_given (rows_by_period c.args.periods.now)) _ _ _ c.args.t c.loop-a.a c.loop-a.invariant c.in_ok-add_change.ensures
