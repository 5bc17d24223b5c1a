use Rattle.drift_chain.specs.DriftRows.{row_of}
use Rattle.period_rows.specs.Changes.{change_of}
use Rattle.searcher_maps.specs.Differing.{change_to}
use Rattle.searcher_maps.proofs.Changed.{no_owner, owner_more}
use Rattle.searcher_maps.proofs.drifting.add_period.Goals as goal
use Rattle.period_rows.specs.Rows.{is_same_row}

pub loop-c-init : goal.loop-c-init
loop-c-init c = no_owner change_of is_same_row change_to (row_of c.args.drift.now) c.args.changes.now.items c.args.t

pub loop-c-preserved : goal.loop-c-preserved
loop-c-preserved c = owner_more change_of is_same_row change_to (row_of c.args.drift.now) _ _ _ c.args.t c.loop-c.c c.loop-c.invariant c.in_ok-add_change.ensures
