use Rattle.std.proofs.Common.{sym}
use Rattle.search_model.proofs.Greatest.{greatest-one, greatest-cons}
use Rattle.gap_plan.proofs.numbers.set_number.Goals as goal

pub returns-in-Closed-clause-most : goal.returns-in-Closed-clause-most
returns-in-Closed-clause-most c = rw c.in-Closed.is (sym (greatest-one c.args.most))

pub returns-in-Waiting-clause-most : goal.returns-in-Waiting-clause-most
returns-in-Waiting-clause-most c = rw (greatest-cons, greatest-one) c.max.ensures
