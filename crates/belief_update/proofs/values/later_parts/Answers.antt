use Rattle.std.proofs.Common.{◌-◌, arith}
use Rattle.exact_parts.proofs.Widths.{drifts_fit, looks_fit}
use Rattle.search_model.proofs.Totals.{powers_fit}
use Rattle.belief_update.proofs.values.later_parts.Goals as goal

pub pow-requires : goal.pow-requires
pow-requires c =
    let p = c.args.sc.now in
    let sound = c.horizon-horizon.ensures.sound in
    let fits = drifts_fit p.total p.drift.denominator p.sweep.denominator p.horizon (p.horizon - c.args.t) (omega (arith, sound.total)) (omega (arith, sound.drift.denominator)) (omega (arith, sound.sweep.denominator)) sound.fits (omega (arith, c.requires.first)) in
    rw (c.from.ensures, c.denominator.ensures.value, c.drift.ensures.value, c.horizon-horizon.ensures.value) (omega (arith, fits))

pub pow-requires-2 : goal.pow-requires-2
pow-requires-2 c =
    let p = c.args.sc.now in
    let sound = c.horizon-horizon.ensures.sound in
    let fits = looks_fit p.total p.drift.denominator p.sweep.denominator p.horizon (p.horizon - c.args.k) (omega (arith, sound.total)) (omega (arith, sound.drift.denominator)) (omega (arith, sound.sweep.denominator)) sound.fits (omega arith) in
    rw (c.from-2.ensures, c.denominator-2.ensures.value, c.sweep.ensures.value, c.horizon-horizon.ensures.value) (omega (arith, fits))

pub overflow_mul-result : goal.overflow_mul-result
overflow_mul-result c =
    let p = c.args.sc.now in
    let sound = c.horizon-horizon.ensures.sound in
    let fits = powers_fit p sound (p.horizon - c.args.t) (p.horizon - c.args.k) (omega (arith, c.requires.first)) (omega arith) in
    rw (c.pow.ensures, c.pow-2.ensures, c.from.ensures, c.from-2.ensures, c.denominator.ensures.value, c.denominator-2.ensures.value, c.drift.ensures.value, c.sweep.ensures.value, c.horizon-horizon.ensures.value) (omega (arith, fits))
