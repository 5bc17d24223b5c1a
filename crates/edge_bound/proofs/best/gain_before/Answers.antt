use Rattle.std.proofs.Common.{◌+◌, ◌*◌, ◌-◌, ◌≤◌, length, arith}
use Rattle.exact_parts.proofs.Widths.{le-times}
use Rattle.search_model.proofs.Totals.{whole_weight-fits}
use Rattle.search_model.proofs.RewardSizes.{reward-within, weights-fit}
use Rattle.edge_bound.proofs.Discounts.{reward_before}
use Rattle.edge_bound.proofs.Fitting.{greatest_moves-within}
use Rattle.edge_bound.proofs.best.gain_before.Goals as goal

pub overflow_mul-part : goal.overflow_mul-part
overflow_mul-part c =
    let p = c.args.sc.now in
    let q = c.args.prefix.now in
    let sound = c.sweep.ensures.sound in
    let is = reward_before p sound q c.args.t c.args.a c.requires.period.later c.requires.period.last in
    let most = reward-within p sound q (c.args.t - 1) c.args.a (omega (arith, c.requires.period.later, c.requires.period.last)) in
    let times = le-times (c.args.found * p.drift.denominator) p.sweep.denominator (omega (arith, sound.sweep.denominator)) in
    rw (c.from.ensures, c.denominator-steps.ensures.value, c.drift.ensures.value) (omega (arith, times, rw (← c.requires.found) at is, most, whole_weight-fits p sound))

pub overflow_mul-reward : goal.overflow_mul-reward
overflow_mul-reward c =
    let p = c.args.sc.now in
    let q = c.args.prefix.now in
    let sound = c.sweep.ensures.sound in
    let is = reward_before p sound q c.args.t c.args.a c.requires.period.later c.requires.period.last in
    let most = reward-within p sound q (c.args.t - 1) c.args.a (omega (arith, c.requires.period.later, c.requires.period.last)) in
    rw (c.from.ensures, c.denominator-steps.ensures.value, c.drift.ensures.value, c.from-2.ensures, c.denominator-looks.ensures.value, c.sweep.ensures.value, c.requires.found)
    (omega (arith, is, most, whole_weight-fits p sound))

pub overflow_add-result : goal.overflow_add-result
overflow_add-result c =
    let p = c.args.sc.now in
    let q = c.args.prefix.now in
    let t = c.args.t in
    let sound = c.sweep.ensures.sound in
    let some : 2 ≤ p.horizon - length q = omega (arith, c.requires.period.later, c.requires.period.last) in
    let is = reward_before p sound q t c.args.a c.requires.period.later c.requires.period.last in
    let most = reward-within p sound q (t - 1) c.args.a (omega (arith, some)) in
    let rest = greatest_moves-within p sound q some (p.horizon + 1 - t) t c.args.a in
    let fits = weights-fit p sound (p.horizon + 1 - t) (omega (arith, c.requires.period.later)) in
    rw (c.from.ensures, c.denominator-steps.ensures.value, c.drift.ensures.value, c.from-2.ensures, c.denominator-looks.ensures.value, c.sweep.ensures.value, c.requires.found, c.requires.best)
    (omega (arith, is, most, rest, fits))

pub returns : goal.returns
returns c =
    let is = reward_before c.args.sc.now c.sweep.ensures.sound c.args.prefix.now c.args.t c.args.a c.requires.period.later c.requires.period.last in
    rw (c.from.ensures, c.denominator-steps.ensures.value, c.drift.ensures.value, c.from-2.ensures, c.denominator-looks.ensures.value, c.sweep.ensures.value, c.requires.found, c.requires.best)
    (omega (arith, is))
