use Rattle.std.proofs.Common.{refl}
use Rattle.edge_bound.proofs.UnitTable.{steady_unchanged}
use Rattle.edge_bound.proofs.units.is_steady.Goals as goal

pub returns-then-not-may_change-2 : goal.returns-then-not-may_change-2
returns-then-not-may_change-2 c told =
    steady_unchanged c.args.sc.now (rw c.drift.ensures.value at (c.if-not-may_change.ensures refl)) (rw c.sweep.ensures.value at (c.if-not-may_change-2.ensures refl))
