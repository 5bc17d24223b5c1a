use Rattle.std.proofs.Common.{ℕ, ◌<◌, length, map}
use Rattle.search_grid.specs.Moves.{moves_from, IsMoveRow}
use Rattle.search_grid.proofs.faults.first_fault.Given as goal

abbrev pub invariant-loop-c : goal.invariant-loop-c
invariant-loop-c l = (k : ℕ) → k < l.c → IsMoveRow (length l.rows) (moves_from (map (λ row. row.items) l.rows) k)
