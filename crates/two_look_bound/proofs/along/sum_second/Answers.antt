use Rattle.std.proofs.Common.{◌≡◌, ◌+◌, ◌-◌, ◌<◌, ◌≤◌, length, slice_index, sym, arith}
use Rattle.search_model.proofs.RewardSizes.{weights-fit}
use Rattle.edge_bound.proofs.Fitting.{edge_reward-within}
use Rattle.two_look_bound.proofs.PathSums.{second_sum-first, second_sum-none, rest-within}
use Rattle.two_look_bound.proofs.along.sum_second.Goals as goal

pub returns-then-k-last-clause-sum : goal.returns-then-k-last-clause-sum
returns-then-k-last-clause-sum c =
    let q = c.args.given.now.prefix.now in
    let x = c.args.path.now in
    let past : length x ≤ length q + 1 = omega (arith, c.if-k-last.true, c.len-k.ensures.value) in
    sym (second_sum-none c.args.given.now.sc.now q x (slice_index x (length q)) past)

pub sum_later-requires-clause-short : goal.sum_later-requires-clause-short
sum_later-requires-clause-short c = omega (arith, c.if-k-last.false, c.len-k.ensures.value, c.requires.whole, c.requires.short)

pub sum_later-requires-clause-fits : goal.sum_later-requires-clause-fits
sum_later-requires-clause-fits c =
    let p = c.args.given.now.sc.now in
    let q = c.args.given.now.prefix.now in
    let x = c.args.path.now in
    omega (arith, rest-within p c.recall_sound.ensures q x c.requires.whole (omega (arith, c.if-k-last.false, c.len-k.ensures.value, c.requires.whole, c.requires.short)), weights-fit p c.recall_sound.ensures (p.horizon - (length q + 2)) (omega arith))

pub overflow_add-result : goal.overflow_add-result
overflow_add-result c =
    let p = c.args.given.now.sc.now in
    let q = c.args.given.now.prefix.now in
    let x = c.args.path.now in
    let sound = c.recall_sound.ensures in
    let edge = edge_reward-within p sound q (length q + 2) (slice_index x (length q)) (slice_index x (length q + 1)) (omega (arith, c.if-k-last.false, c.len-k.ensures.value, c.requires.whole, c.requires.short)) in
    rw (c.next_reward-second.ensures.reward, c.sum_later.ensures.sum, c.len-k.ensures.value) (omega (arith, edge, rest-within p c.recall_sound.ensures q x c.requires.whole (omega (arith, c.if-k-last.false, c.len-k.ensures.value, c.requires.whole, c.requires.short)), weights-fit p sound (p.horizon - (length q + 2)) (omega arith)))

pub returns-clause-sum : goal.returns-clause-sum
returns-clause-sum c =
    let p = c.args.given.now.sc.now in
    let q = c.args.given.now.prefix.now in
    let x = c.args.path.now in
    let two : length q + 1 + 1 ≡ length q + 2 = omega arith in
    let more : length q + 1 < length x = omega (arith, c.if-k-last.false, c.len-k.ensures.value, c.requires.whole, c.requires.short) in
    let is = second_sum-first p q x (slice_index x (length q)) more in
    rw (c.next_reward-second.ensures.reward, c.sum_later.ensures.sum, c.len-k.ensures.value) (sym (rw two at is))
