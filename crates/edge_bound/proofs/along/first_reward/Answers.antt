use Rattle.std.proofs.Common.{◌+◌, length, arith}
use Rattle.search_model.proofs.Totals.{whole_weight-fits}
use Rattle.search_model.proofs.RewardSizes.{reward-within}
use Rattle.edge_bound.proofs.along.first_reward.Goals as goal

pub overflow_mul-result : goal.overflow_mul-result
overflow_mul-result c =
    let p = c.args.sc.now in
    let q = c.args.prefix.now in
    let sound = c.recall_sound.ensures in
    let most = reward-within p sound q (length q + 1) c.args.b c.requires.short in
    rw (c.later_parts.ensures, c.len.ensures.value, c.found_first.ensures) (omega (arith, most, whole_weight-fits p sound))

pub returns : goal.returns
returns c = rw (c.later_parts.ensures, c.len.ensures.value) c.found_first.ensures
