use Rattle.list_laws.proofs.Passes.{IsPassed}
use Rattle.period_rows.specs.Changes.{change_of}
use Rattle.period_rows.proofs.RowOrder.{IsPutChange}
use Rattle.period_rows.proofs.changes.sort_changes.Given as goal

abbrev pub invariant-loop-change : goal.invariant-loop-change
invariant-loop-change l = IsPassed (λ given now. IsPutChange (change_of given) (change_of now)) l.fn.changes l.changes l.change-index
