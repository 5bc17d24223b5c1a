use Rattle.std.proofs.Common.{ℕ, ◌<◌}
use Rattle.std.specs.Prelude.{Contains}
use Rattle.residual_plan.specs.Forced.{forced_name}
use Rattle.residual_plan.proofs.naming.is_name_taken.Given as goal

abbrev pub invariant-loop-i : goal.invariant-loop-i
invariant-loop-i l = (k : ℕ) → k < l.i → ¬ Contains l.sc.position_names (forced_name k)
