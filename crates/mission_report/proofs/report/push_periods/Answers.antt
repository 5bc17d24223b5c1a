use Rattle.std.proofs.Common.{◌+◌, ◌<◌, slice_index, length, ap, arith}
use Rattle.mission_report.specs.Report.{period_row, period_of}
use Rattle.mission_report.proofs.CourseSteps.{position_at}
use Rattle.mission_report.proofs.RowSteps.{period_line, values_long, value_part, line_more, lines_all}
use Rattle.mission_report.proofs.report.push_periods.Goals as goal

pub bounds-values-i : goal.bounds-values-i
bounds-values-i c =
    let long = ap length c.cells-looks.ensures.value in
    omega (arith, values_long c.args.sc.now c.args.path.now c.args.values.now c.requires.values, c.loop-i-test.true, c.requires.path.whole, long)

pub push_period-requires-clause-position : goal.push_period-requires-clause-position
push_period-requires-clause-position c =
    let long = ap length c.cells-looks.ensures.value in
    rw c.cells-looks.ensures.value (position_at c.args.sc.now c.recall_sound.ensures c.args.path.now c.requires.path c.loop-i.i (omega (arith, c.loop-i-test.true, c.requires.path.whole, long)))

pub push_period-requires-clause-value : goal.push_period-requires-clause-value
push_period-requires-clause-value c =
    let long = ap length c.cells-looks.ensures.value in
    value_part c.args.sc.now c.args.path.now c.args.values.now c.loop-i.i c.requires.values (omega (arith, c.loop-i-test.true, c.requires.path.whole, long))

pub loop-i-preserved : goal.loop-i-preserved
loop-i-preserved c =
    let p = c.args.sc.now in
    let q = c.args.path.now in
    let i = c.loop-i.i in
    let long = ap length c.cells-looks.ensures.value in
    let more : i < p.horizon = omega (arith, c.loop-i-test.true, c.requires.path.whole, long) in
    let row = period_row p (i + 1) (slice_index c.cells-looks.result.now i) (slice_index c.args.values.now i) in
    line_more (period_of p q) 1 p.horizon i row _ _ _ more (period_line p q c.cells-looks.result.now c.args.values.now i c.cells-looks.ensures.value c.requires.values more) c.loop-i.invariant c.in_ok-push_period.ensures.ok

pub returns-clause-ok : goal.returns-clause-ok
returns-clause-ok c =
    let p = c.args.sc.now in
    let long = ap length c.cells-looks.ensures.value in
    lines_all (period_of p c.args.path.now) 1 p.horizon c.loop-i.i _ _ (omega (arith, c.loop-i-test.false, c.requires.path.whole, long)) c.loop-i.invariant
