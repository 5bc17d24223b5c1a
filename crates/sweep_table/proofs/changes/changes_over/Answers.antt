use Rattle.sweep_table.specs.Changes.{row_fault_of}
use Rattle.sweep_table.proofs.NamedFaults.{none_bad, IsBadRow-permutation}
use Rattle.sweep_table.proofs.changes.changes_over.Goals as goal

pub new-requires-clause-apart : goal.new-requires-clause-apart
new-requires-clause-apart c = none_bad c.args.denominator c.args.cells

pub new-requires-clause-any_order : goal.new-requires-clause-any_order
new-requires-clause-any_order c = IsBadRow-permutation c.args.denominator c.args.cells

pub returns-in-Ok-clause-faultless : goal.returns-in-Ok-clause-faultless
returns-in-Ok-clause-faultless c = λ made fault has. c.in-Ok.ensures.faultless made (row_fault_of fault) has

pub returns-in-Err-clause-refusal : goal.returns-in-Err-clause-refusal
returns-in-Err-clause-refusal c = rw c.from.ensures c.in-Err.ensures.refusal
