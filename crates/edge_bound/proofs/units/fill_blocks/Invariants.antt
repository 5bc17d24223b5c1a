use Rattle.std.proofs.Common.{◌<◌, ◌+◌, ◌*◌, ℕ}
use Rattle.edge_bound.specs.Units.{HasBlock}
use Rattle.edge_bound.proofs.units.fill_blocks.Given as goal

-- the periods so far
abbrev pub invariant-loop-n : goal.invariant-loop-n
invariant-loop-n l = (m : ℕ) → m < l.n → HasBlock l.sc (m + 2) l.units (m * (l.sc.cells * l.sc.positions))
