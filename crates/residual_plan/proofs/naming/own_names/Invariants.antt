use Rattle.std.proofs.Common.{◌≡◌, take}
use Rattle.residual_plan.proofs.naming.own_names.Given as goal

abbrev pub invariant-loop-a : goal.invariant-loop-a
invariant-loop-a l = l.names.items ≡ take l.a l.sc.position_names
