use Rattle.drift_chain.proofs.NamedFaults.{IsFirstFault-same}
use Rattle.drift_chain.proofs.faults.put_in_order.Goals as goal

pub returns-in-Some-clause-fault : goal.returns-in-Some-clause-fault
returns-in-Some-clause-fault c = IsFirstFault-same c.args.denominator _ _ c.sort_rows.ensures.same c.in-Some.fault c.in-Some.ensures.some
