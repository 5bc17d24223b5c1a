use Rattle.std.proofs.Common.{◌-◌, length, arith}
use Rattle.search_model.proofs.RewardSizes.{weights-fit}
use Rattle.two_look_bound.proofs.Fitting.{two_sums-within}
use Rattle.two_look_bound.proofs.Recursion.{remembering_two}
use Rattle.two_look_bound.proofs.tables.bound_from.Goals as goal

pub overflow_add-result : goal.overflow_add-result
overflow_add-result c =
    let p = c.args.given.now.sc.now in
    let q = c.args.given.now.prefix.now in
    let sound = c.recall_sound.ensures in
    rw (c.requires.value, c.best_first.ensures) (omega (arith, two_sums-within p sound q c.requires.short, weights-fit p sound (p.horizon - length q) (omega arith)))

pub returns : goal.returns
returns c = rw (c.requires.value, c.best_first.ensures) (remembering_two c.args.given.now.sc.now c.args.given.now.prefix.now)

pub split_at_mut-pairs-requires : goal.split_at_mut-pairs-requires
split_at_mut-pairs-requires c = rw (c.from-positions.ensures, c.positions.ensures.value) (omega (arith, c.requires.sums))

pub go_back-requires-clause-size : goal.go_back-requires-clause-size
go_back-requires-clause-size c = rw (c.from-positions.ensures, c.positions.ensures.value) at c.split_at_mut-pairs.ensures.front_len

pub go_back-requires-clause-room : goal.go_back-requires-clause-room
go_back-requires-clause-room c =
    let back = rw (c.from-positions.ensures, c.positions.ensures.value) at c.split_at_mut-pairs.ensures.back_len in
    omega (arith, back, c.requires.sums)
