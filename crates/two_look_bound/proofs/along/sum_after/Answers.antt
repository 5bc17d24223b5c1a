use Rattle.std.proofs.Common.{◌≡◌, ◌+◌, ◌-◌, length, drop, slice_index, arith}
use Rattle.std.proofs.lemmas.List.{length-drop}
use Rattle.search_model.proofs.RewardSizes.{reward-within, weights-fit}
use Rattle.two_look_bound.proofs.Fitting.{second_sum-within}
use Rattle.two_look_bound.proofs.PathSums.{two_sum-first}
use Rattle.two_look_bound.proofs.along.sum_after.Goals as goal

pub overflow_add-result : goal.overflow_add-result
overflow_add-result c =
    let p = c.args.given.now.sc.now in
    let q = c.args.given.now.prefix.now in
    let x = c.args.path.now in
    let sound = c.recall_sound.ensures in
    let size : length (drop (length q + 1) x) ≡ p.horizon - (length q + 1) = omega (arith, length-drop (length q + 1) x, c.requires.whole) in
    let first = reward-within p sound q (length q + 1) (slice_index x (length q)) c.requires.short in
    let rest = second_sum-within p sound q (slice_index x (length q)) (drop (length q + 1) x) (omega (arith, size, c.requires.short)) in
    let fits = weights-fit p sound (p.horizon - (length q + 1)) (omega arith) in
    rw (c.first_reward-first.ensures, c.sum_second.ensures.sum, c.len.ensures.value) (omega (arith, first, rw size at rest, fits))

pub returns-clause-sum : goal.returns-clause-sum
returns-clause-sum c =
    let q = c.args.given.now.prefix.now in
    rw (c.first_reward-first.ensures, c.sum_second.ensures.sum, c.len.ensures.value) (omega (arith, two_sum-first c.args.given.now.sc.now q c.args.path.now (omega (arith, c.requires.short, c.requires.whole))))
