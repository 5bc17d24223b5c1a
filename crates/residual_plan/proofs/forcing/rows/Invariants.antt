use Rattle.std.proofs.Common.{◌≡◌, map}
use Rattle.std.specs.List.{range_with_len}
use Rattle.residual_plan.specs.Forced.{forced_row}
use Rattle.residual_plan.proofs.forcing.rows.Given as goal

abbrev pub invariant-loop-a : goal.invariant-loop-a
invariant-loop-a l = map (λ row. row.items) l.rows.items ≡ map (forced_row l.sc l.flown) (range_with_len 0 l.a)
