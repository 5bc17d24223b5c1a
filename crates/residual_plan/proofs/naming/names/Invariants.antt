use Rattle.std.proofs.Common.{◌≡◌, ◌++◌, map}
use Rattle.std.specs.List.{range_with_len}
use Rattle.residual_plan.specs.Forced.{forced_name}
use Rattle.residual_plan.proofs.naming.names.Given as goal

abbrev pub invariant-loop-i : goal.invariant-loop-i
invariant-loop-i l = l.names.items ≡ l.sc.position_names ++ map forced_name (range_with_len 0 l.i)
