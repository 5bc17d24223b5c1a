use Rattle.std.proofs.Common.{◌≡◌, map}
use Rattle.std.specs.List.{range_with_len}
use Rattle.residual_plan.specs.Rows.{forced_look}
use Rattle.residual_plan.proofs.forcing.looks_in.Given as goal

abbrev pub invariant-loop-a : goal.invariant-loop-a
invariant-loop-a l = map (λ row. row.items) l.rows.items ≡ map (forced_look l.sc l.flown l.t) (range_with_len 0 l.a)
