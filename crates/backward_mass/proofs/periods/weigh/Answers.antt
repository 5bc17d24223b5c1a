use Rattle.std.proofs.Common.{◌<◌, arith}
use Rattle.backward_mass.proofs.RowSteps.{missed_fits}
use Rattle.backward_mass.proofs.periods.weigh.Goals as goal

pub overflow_mul-missed : goal.overflow_mul-missed
overflow_mul-missed c =
    let p = c.args.sc.now in
    let here : c.loop-d.d < p.cells = omega (arith, c.loop-d-test.true, c.cells-d-end.ensures.value) in
    let fits = missed_fits p c.cells-d-end.ensures.sound c.args.looks.now c.requires.path c.args.t c.requires.more c.requires.first c.loop-d.d here in
    rw (c.from-in-loop-d.ensures, c.next_factor-factor.ensures, c.from.ensures, c.requires.next c.loop-d.d here) (omega (arith, fits))
