use Rattle.std.proofs.Common.{◌+◌, length, map, ap, sym, ◌∙◌, arith}
use Rattle.period_rows.specs.Rows.{is_same_row}
use Rattle.period_rows.specs.Changes.{change_of}
use Rattle.searcher_maps.specs.Periods.{rows_by_period, row_given}
use Rattle.searcher_maps.specs.Differing.{change_to}
use Rattle.searcher_maps.proofs.Changed.{differing-none, differing-same, period_more}
use Rattle.searcher_maps.proofs.looks.later_rows.Goals as goal

pub loop-t-init : goal.loop-t-init
loop-t-init c =
    let row = row_given (rows_by_period c.args.periods.now) in
    (ap (map change_of) c.new-changes.ensures.items ∙ sym (differing-none is_same_row change_to row c.args.positions), omega arith)

pub loop-t-preserved : goal.loop-t-preserved
loop-t-preserved c =
    let row = row_given (rows_by_period c.args.periods.now) in
    (period_more change_of is_same_row change_to row _ _ c.args.positions c.loop-t.t (omega arith) c.loop-t.invariant.0 c.in_ok-add_period.ensures, omega arith)

pub returns : goal.returns
returns c =
    let row = row_given (rows_by_period c.args.periods.now) in
    c.loop-t.invariant.0 ∙ differing-same is_same_row change_to row c.args.positions c.loop-t.t (length c.args.periods.now + 1) (omega (arith, c.loop-t.invariant.1))
