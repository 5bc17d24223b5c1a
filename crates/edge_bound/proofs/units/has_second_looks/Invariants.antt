use Rattle.std.proofs.Common.{◌≡◌, ◌<◌, ℕ}
use Rattle.sweep_table.specs.LookParts.{look_row}
use Rattle.edge_bound.proofs.units.has_second_looks.Given as goal

-- the looks from the positions so far
abbrev pub invariant-loop-b : goal.invariant-loop-b
invariant-loop-b l = (b : ℕ) → b < l.b → look_row l.sc.sweep l.t b ≡ look_row l.sc.sweep 2 b
