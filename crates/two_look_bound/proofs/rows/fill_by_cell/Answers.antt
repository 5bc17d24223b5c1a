use Rattle.std.proofs.Common.{refl, arith}
use Rattle.search_model.proofs.Totals.{whole_weight-fits}
use Rattle.two_look_bound.proofs.Fitting.{found_two-within}
use Rattle.two_look_bound.proofs.rows.fill_by_cell.Goals as goal

pub overflow_mul-share : goal.overflow_mul-share
overflow_mul-share c =
    let p = c.args.given.now.sc.now in
    let sound = c.recall_sound.ensures in
    rw (c.found_by.ensures, c.requires.parts) (omega (arith, found_two-within p sound c.args.given.now.prefix.now c.args.s c.requires.middle c.args.a, whole_weight-fits p sound))

pub fill_skips_own-requires-clause-share : goal.fill_skips_own-requires-clause-share
fill_skips_own-requires-clause-share c = rw (c.found_by.ensures, c.requires.parts) refl

pub fill_sums_own-requires-clause-share : goal.fill_sums_own-requires-clause-share
fill_sums_own-requires-clause-share c = rw (c.found_by.ensures, c.requires.parts) refl
