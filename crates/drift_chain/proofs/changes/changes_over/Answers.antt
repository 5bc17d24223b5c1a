use Rattle.drift_chain.specs.ChangeFaults.{row_fault_of}
use Rattle.drift_chain.proofs.ChangeFaults.{right_is_not_bad, bad_row-permutation}
use Rattle.drift_chain.proofs.changes.changes_over.Goals as goal

pub new-requires-clause-apart : goal.new-requires-clause-apart
new-requires-clause-apart c = right_is_not_bad c.args.denominator c.args.cells

pub new-requires-clause-any_order : goal.new-requires-clause-any_order
new-requires-clause-any_order c = bad_row-permutation c.args.denominator c.args.cells

pub returns-in-Ok-clause-faultless : goal.returns-in-Ok-clause-faultless
returns-in-Ok-clause-faultless c = λ made fault has. c.in-Ok.ensures.faultless made (row_fault_of fault) has

pub returns-in-Err-clause-fault : goal.returns-in-Err-clause-fault
returns-in-Err-clause-fault c = rw c.from.ensures c.in-Err.ensures.refusal
