use Rattle.std.proofs.Common.{◌*◌, ◌≡◌, refl, arith}
use Rattle.search_model.specs.Tracks.{missed_weight}
use Rattle.search_model.proofs.Totals.{nothing_is_cut_off, missed_weight-fits}
use Rattle.belief_update.proofs.PrefixValues.{undetected_is}
use Rattle.belief_update.proofs.values.value_by.Goals as goal

-- what the prefix misses
missed : (c : goal.After-undetected) → c.undetected.result * c.later_parts-later.result ≡ missed_weight c.args.sc.now c.args.prefix.now
missed c =
    let is = undetected_is c.args.sc.now c.weight.ensures.sound c.args.prefix.now c.args.belief.now c.requires in
    rw (c.undetected.ensures, c.later_parts-later.ensures, c.period.ensures, c.len.ensures.value) is

pub overflow_mul-result : goal.overflow_mul-result
overflow_mul-result c =
    let fits = missed_weight-fits c.args.sc.now c.weight.ensures.sound c.args.prefix.now in
    omega (arith, missed c, fits)

pub overflow_sub-result : goal.overflow_sub-result
overflow_sub-result c = rw (missed c, c.weight.ensures.value) (nothing_is_cut_off c.args.sc.now c.args.prefix.now c.weight.ensures.sound)

pub returns : goal.returns
returns c = rw (missed c, c.weight.ensures.value) refl
