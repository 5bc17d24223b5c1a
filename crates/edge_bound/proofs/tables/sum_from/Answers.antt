use Rattle.std.proofs.Common.{◌-◌, ◌<◌, length, arith, All}
use Rattle.search_model.proofs.RewardSizes.{weights-fit}
use Rattle.search_model.proofs.LegalLemmas.{follows_within}
use Rattle.edge_bound.proofs.Fitting.{edge_sums-within}
use Rattle.edge_bound.proofs.PathSums.{rest-within}
use Rattle.edge_bound.proofs.tables.sum_from.Goals as goal

pub sum_after-requires-clause-within : goal.sum_after-requires-clause-within
sum_after-requires-clause-within c =
    let p = c.args.sc.now in
    let sound = c.recall_sound.ensures in
    let within : All (λ a. a < p.positions) c.args.path.now = rw sound.grid_positions at (follows_within p.moves sound.grid p.start (omega (arith, sound.start, sound.grid_positions)) c.args.path.now c.requires.path.follows) in
    rw c.cells.ensures.value within

pub sum_after-requires-clause-fits : goal.sum_after-requires-clause-fits
sum_after-requires-clause-fits c =
    let p = c.args.sc.now in
    let q = c.args.prefix.now in
    let sound = c.recall_sound.ensures in
    let rest = rest-within p q c.args.path.now c.requires.path c.requires.begins in
    rw c.cells.ensures.value (omega (arith, rest, edge_sums-within p sound q, weights-fit p sound (p.horizon - length q) (omega arith)))

pub overflow_add-result : goal.overflow_add-result
overflow_add-result c =
    let p = c.args.sc.now in
    let q = c.args.prefix.now in
    let sound = c.recall_sound.ensures in
    let rest = rest-within p q c.args.path.now c.requires.path c.requires.begins in
    rw (c.requires.value, c.sum_after.ensures.sum, c.cells.ensures.value) (omega (arith, rest, edge_sums-within p sound q, weights-fit p sound (p.horizon - length q) (omega arith)))

pub returns-clause-shown : goal.returns-clause-shown
returns-clause-shown c =
    let rest = rest-within c.args.sc.now c.args.prefix.now c.args.path.now c.requires.path c.requires.begins in
    rw (c.requires.value, c.sum_after.ensures.sum, c.cells.ensures.value) (omega (arith, rest))
