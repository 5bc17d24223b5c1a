use Rattle.std.proofs.Common.{ℕ, ◌<◌, map}
use Rattle.sweep_table.specs.LookParts.{IsLookRow}
use Rattle.period_rows.specs.Rows.{row_at}
use Rattle.sweep_table.proofs.faults.first_fault.Given as goal

abbrev pub invariant-loop-p : goal.invariant-loop-p
invariant-loop-p l = (q : ℕ) → q < l.p → IsLookRow l.denominator l.cells (row_at (map (λ row. row.items) l.rows) q)
