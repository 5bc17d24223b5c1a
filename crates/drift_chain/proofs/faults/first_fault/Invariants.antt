use Rattle.std.proofs.Common.{ℕ, ◌<◌, length, map}
use Rattle.drift_chain.specs.DriftRows.{IsDriftRow}
use Rattle.period_rows.specs.Rows.{row_at}
use Rattle.drift_chain.proofs.faults.first_fault.Given as goal

abbrev pub invariant-loop-c : goal.invariant-loop-c
invariant-loop-c l = (k : ℕ) → k < l.c → IsDriftRow l.denominator (length l.rows) (row_at (map (λ row. row.items) l.rows) k)
