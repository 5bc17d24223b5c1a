use Rattle.std.proofs.Common.{◌≡◌, map, take}
use Rattle.scenario_text.proofs.shorthands.rows_of.Given as goal

abbrev pub invariant-loop-c : goal.invariant-loop-c
invariant-loop-c l = map (λ row. row.items) l.rows.items ≡ take l.c l.grid
