use Rattle.std.proofs.Common.{◌*◌, ◌≡◌, refl, arith}
use Rattle.search_model.specs.Tracks.{missed_weight}
use Rattle.search_model.proofs.Totals.{nothing_is_cut_off, missed_weight-fits}
use Rattle.mission_report.proofs.Values.{missed_by}
use Rattle.mission_report.proofs.course.value_after.Goals as goal

-- what a prefix misses
missed : (c : goal.After-later_parts) → c.undetected.result * c.later_parts.result ≡ missed_weight c.args.sc.now c.requires.0
missed c = rw (c.undetected.ensures, c.later_parts.ensures, c.period-t.ensures) (missed_by c.args.sc.now c.weight.ensures.sound c.requires.0 c.args.belief.now c.requires.1)

pub overflow_mul-result : goal.overflow_mul-result
overflow_mul-result c = omega (arith, missed c, missed_weight-fits c.args.sc.now c.weight.ensures.sound c.requires.0)

pub overflow_sub-result : goal.overflow_sub-result
overflow_sub-result c = rw (missed c, c.weight.ensures.value) (nothing_is_cut_off c.args.sc.now c.requires.0 c.weight.ensures.sound)

pub returns : goal.returns
returns c q belief =
    let is = missed_by c.args.sc.now c.weight.ensures.sound q c.args.belief.now belief in
    rw (c.undetected.ensures, c.later_parts.ensures, c.period-t.ensures, c.weight.ensures.value, is) refl
