use Rattle.list_laws.proofs.Passes.{IsPassed}
use Rattle.period_rows.proofs.RowOrder.{IsPut}
use Rattle.period_rows.proofs.rows.sort_rows.Given as goal

abbrev pub invariant-loop-row : goal.invariant-loop-row
invariant-loop-row l = IsPassed (λ given now. IsPut given.items now.items) l.fn.rows l.rows l.row-index
