use Rattle.std.proofs.Common.{◌≡◌, map}
use Rattle.std.specs.List.{range_with_len}
use Rattle.residual_plan.specs.Rows.{forced_looks_in}
use Rattle.residual_plan.proofs.forcing.looks.Given as goal

abbrev pub invariant-loop-t : goal.invariant-loop-t
invariant-loop-t l = map (λ period. map (λ row. row.items) period.items) l.rows.items ≡ map (forced_looks_in l.sc l.flown) (range_with_len 1 l.t)
