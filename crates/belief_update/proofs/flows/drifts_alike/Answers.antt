use Rattle.belief_update.proofs.FlowSteps.{steps_alike}
use Rattle.belief_update.proofs.flows.drifts_alike.Goals as goal

pub returns-then-not-may_change : goal.returns-then-not-may_change
returns-then-not-may_change c told t cell first last here =
    steps_alike c.args.sc.now.drift (rw c.drift.ensures.value at (c.may_change.ensures c.if-not-may_change.true)) t 1 cell
