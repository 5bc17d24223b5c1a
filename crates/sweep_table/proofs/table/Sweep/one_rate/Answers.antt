use Rattle.sweep_table.proofs.Changed.{steady_some, steady_none}
use Rattle.sweep_table.proofs.table.Sweep.one_rate.Goals as goal

pub returns-else-may_change-clause-some : goal.returns-else-may_change-clause-some
returns-else-may_change-clause-some c =
    steady_some c.args.self.now (c.may_change.ensures c.if-may_change.false) c.args.horizon c.requires.first c.rate_up_to-else-may_change.result c.rate_up_to-else-may_change.ensures.some

pub returns-else-may_change-clause-none : goal.returns-else-may_change-clause-none
returns-else-may_change-clause-none c =
    steady_none c.args.self.now (c.may_change.ensures c.if-may_change.false) c.args.horizon c.requires.first c.rate_up_to-else-may_change.result c.rate_up_to-else-may_change.ensures.none
