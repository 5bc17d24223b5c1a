use Rattle.std.proofs.Common.{arith}
use Rattle.search_model.proofs.Totals.{whole_weight-fits}
use Rattle.search_model.proofs.RewardSizes.{reward-within}
use Rattle.edge_bound.proofs.Discounts.{reward_parts}
use Rattle.edge_bound.proofs.Fitting.{found_times-within}
use Rattle.edge_bound.proofs.along.reward_without.Goals as goal

pub overflow_mul-found : goal.overflow_mul-found
overflow_mul-found c =
    let p = c.args.sc.now in
    let sound = c.recall_sound.ensures in
    let most = found_times-within p sound c.args.prefix.now c.args.t c.args.b c.requires.period.later c.requires.period.last in
    rw (c.found_by.ensures, c.from.ensures, c.denominator-whole.ensures.value, c.sweep.ensures.value) (omega (arith, most, whole_weight-fits p sound))

pub overflow_mul-result : goal.overflow_mul-result
overflow_mul-result c =
    let p = c.args.sc.now in
    let q = c.args.prefix.now in
    let sound = c.recall_sound.ensures in
    let is = reward_parts p sound q c.args.t c.args.b c.requires.period.later c.requires.period.last in
    let most = reward-within p sound q c.args.t c.args.b (omega (arith, c.requires.period.later, c.requires.period.last)) in
    rw (c.found_by.ensures, c.from.ensures, c.denominator-whole.ensures.value, c.sweep.ensures.value, c.requires.parts) (omega (arith, is, most, whole_weight-fits p sound))

pub returns : goal.returns
returns c =
    rw (c.found_by.ensures, c.from.ensures, c.denominator-whole.ensures.value, c.sweep.ensures.value, c.requires.parts) (reward_parts c.args.sc.now c.recall_sound.ensures c.args.prefix.now c.args.t c.args.b c.requires.period.later c.requires.period.last)
