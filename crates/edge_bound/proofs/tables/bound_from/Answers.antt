use Rattle.std.proofs.Common.{◌-◌, length, arith}
use Rattle.search_model.proofs.RewardSizes.{weights-fit}
use Rattle.edge_bound.proofs.Fitting.{edge_sums-within}
use Rattle.edge_bound.proofs.tables.bound_from.Goals as goal

pub overflow_add-result : goal.overflow_add-result
overflow_add-result c =
    let p = c.args.sc.now in
    let q = c.args.prefix.now in
    let sound = c.recall_sound.ensures in
    rw (c.requires.value, c.best_first.ensures) (omega (arith, edge_sums-within p sound q, weights-fit p sound (p.horizon - length q) (omega arith)))
