use Rattle.std.proofs.Common.{map, ap, sym, ◌∙◌, arith}
use Rattle.period_rows.specs.Rows.{is_same_row}
use Rattle.drift_chain.specs.DriftRows.{row_of, drift_cells}
use Rattle.period_rows.specs.Changes.{change_of}
use Rattle.searcher_maps.specs.Differing.{change_to}
use Rattle.searcher_maps.proofs.Changed.{differing-none, differing-same, period_more}
use Rattle.searcher_maps.proofs.drifting.later_rows.Goals as goal

pub loop-t-init : goal.loop-t-init
loop-t-init c =
    let row = row_of c.args.drift.now in
    (ap (map change_of) c.new-changes.ensures.items ∙ sym (differing-none is_same_row change_to row (drift_cells c.args.drift.now)), omega arith)

pub loop-t-preserved : goal.loop-t-preserved
loop-t-preserved c =
    let row = row_of c.args.drift.now in
    (period_more change_of is_same_row change_to row _ _ (drift_cells c.args.drift.now) c.loop-t.t (omega arith) c.loop-t.invariant.0 c.in_ok-add_period.ensures, omega arith)

pub returns : goal.returns
returns c =
    let row = row_of c.args.drift.now in
    c.loop-t.invariant.0 ∙ differing-same is_same_row change_to row (drift_cells c.args.drift.now) c.loop-t.t c.args.end (omega (arith, c.loop-t.invariant.1))
