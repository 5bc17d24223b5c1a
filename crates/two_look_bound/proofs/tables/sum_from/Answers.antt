use Rattle.std.proofs.Common.{◌-◌, ◌<◌, length, arith, All}
use Rattle.search_model.proofs.RewardSizes.{weights-fit}
use Rattle.search_model.proofs.LegalLemmas.{follows_within}
use Rattle.two_look_bound.proofs.Fitting.{two_sums-within}
use Rattle.two_look_bound.proofs.PathSums.{path-within}
use Rattle.two_look_bound.proofs.Recursion.{remembering_two}
use Rattle.two_look_bound.proofs.tables.sum_from.Goals as goal

pub sum_after-requires-clause-within : goal.sum_after-requires-clause-within
sum_after-requires-clause-within c =
    let p = c.args.given.now.sc.now in
    let sound = c.recall_sound.ensures in
    let within : All (λ a. a < p.positions) c.args.path.now = rw sound.grid_positions at (follows_within p.moves sound.grid p.start (omega (arith, sound.start, sound.grid_positions)) c.args.path.now c.requires.path.follows) in
    rw c.cells.ensures.value within

pub overflow_add-result : goal.overflow_add-result
overflow_add-result c =
    let p = c.args.given.now.sc.now in
    let q = c.args.given.now.prefix.now in
    let sound = c.recall_sound.ensures in
    let rest = path-within p q c.args.path.now c.requires.path c.requires.begins in
    rw (c.requires.value, c.sum_after.ensures.sum, c.cells.ensures.value) (omega (arith, rest, two_sums-within p sound q c.requires.short, weights-fit p sound (p.horizon - length q) (omega arith)))

pub returns-clause-shown : goal.returns-clause-shown
returns-clause-shown c =
    let p = c.args.given.now.sc.now in
    let q = c.args.given.now.prefix.now in
    let rest = path-within p q c.args.path.now c.requires.path c.requires.begins in
    rw (c.requires.value, c.sum_after.ensures.sum, c.cells.ensures.value) (omega (arith, rest, remembering_two p q))

pub sum_after-requires-clause-rows : goal.sum_after-requires-clause-rows
sum_after-requires-clause-rows c = omega (arith, c.requires.rows)
