use Rattle.std.proofs.Common.{◌+◌, ◌-◌, length, arith}
use Rattle.search_model.proofs.RewardSizes.{reward-within, weights-fit}
use Rattle.two_look_bound.proofs.Fitting.{seconds-within}
use Rattle.two_look_bound.proofs.rows.first_sum.Goals as goal

pub overflow_add-result : goal.overflow_add-result
overflow_add-result c =
    let p = c.args.given.now.sc.now in
    let q = c.args.given.now.prefix.now in
    let sound = c.recall_sound.ensures in
    let n = p.horizon - (length q + 1) in
    let first = reward-within p sound q (length q + 1) c.args.a c.requires.short in
    rw (c.first_reward.ensures, c.best_second.ensures) (omega (arith, first, seconds-within p sound q c.args.a c.requires.short, weights-fit p sound n (omega arith)))
