use Rattle.std.proofs.Common.{arith}
use Rattle.sweep_table.proofs.Factors.{factor_of-le}
use Rattle.edge_bound.proofs.CellShares.{own_inside}
use Rattle.edge_bound.proofs.units.left_own.Goals as goal

pub factor-requires-clause-cell : goal.factor-requires-clause-cell
factor-requires-clause-cell c =
    let sound = c.recall_sound.ensures in
    rw (c.sweep-2.ensures.value) (omega (arith, own_inside c.args.sc.now c.args.b sound c.requires.own, sound.sweep_cells))

pub overflow_sub-result : goal.overflow_sub-result
overflow_sub-result c =
    let p = c.args.sc.now in
    rw (c.factor.ensures.value, c.sweep-2.ensures.value, c.denominator.ensures.value, c.sweep.ensures.value) (factor_of-le p.sweep c.recall_sound.ensures.sweep c.args.t c.args.b c.args.b)
