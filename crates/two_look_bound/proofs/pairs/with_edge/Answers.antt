use Rattle.std.proofs.Common.{◌-◌, arith}
use Rattle.search_model.proofs.RewardSizes.{weights-fit}
use Rattle.edge_bound.proofs.Fitting.{edge_reward-within}
use Rattle.two_look_bound.proofs.Fitting.{greatest_pairs-within}
use Rattle.two_look_bound.proofs.pairs.with_edge.Goals as goal

pub overflow_add-result : goal.overflow_add-result
overflow_add-result c =
    let p = c.args.given.now.sc.now in
    let q = c.args.given.now.prefix.now in
    let sound = c.recall_sound.ensures in
    let n = p.horizon - c.args.s in
    let edge = edge_reward-within p sound q c.args.s c.args.a c.args.b (omega (arith, c.requires.period.later, c.requires.period.last)) in
    let rest = greatest_pairs-within p sound q n c.args.s c.args.a c.args.b c.requires.period.later (omega (arith, c.requires.period.last)) in
    rw (c.requires.edge, c.requires.best) (omega (arith, edge, rest, weights-fit p sound n (omega arith)))
