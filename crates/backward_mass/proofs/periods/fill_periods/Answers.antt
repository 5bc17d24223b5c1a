use Rattle.std.proofs.Common.{◌+◌, ◌-◌, ◌≡◌, arith}
use Rattle.backward_mass.proofs.RowSteps.{last_row, rows_more}
use Rattle.backward_mass.proofs.periods.fill_periods.Goals as goal

pub loop-t-init : goal.loop-t-init
loop-t-init c =
    let p = c.args.sc.now in
    let cells : c.from-cells.result ≡ p.cells = omega (arith, c.from-cells.ensures, c.cells.ensures.value) in
    let ones = rw (cells, c.cells-2.ensures.value, c.horizon.ensures.value) at c.fill_last.ensures.ones in
    rw c.horizon-t.ensures.value (last_row p c.cells.ensures.sound c.args.looks.now c.fill_last.new.masses ones)

pub loop-t-preserved : goal.loop-t-preserved
loop-t-preserved c =
    let p = c.args.sc.now in
    let cells : c.from-cells.result ≡ p.cells = omega (arith, c.from-cells.ensures, c.cells.ensures.value) in
    let back : c.loop-t.t - 1 + 1 ≡ c.loop-t.t = omega arith in
    rows_more p c.args.looks.now (c.loop-t.t - 1) c.loop-t.masses c.fill_period.new.masses (omega arith) (rw back c.loop-t.invariant)
    (rw cells at c.fill_period.ensures.here) (rw cells at c.fill_period.ensures.later)
