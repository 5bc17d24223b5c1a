use Rattle.sweep_table.proofs.NamedFaults.{IsFirstFault-same}
use Rattle.sweep_table.proofs.faults.put_in_order.Goals as goal

pub returns-in-Some-clause-fault : goal.returns-in-Some-clause-fault
returns-in-Some-clause-fault c = IsFirstFault-same c.args.denominator c.args.cells _ _ c.sort_rows.ensures.same c.in-Some.fault c.in-Some.ensures.some
