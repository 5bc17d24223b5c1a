use Rattle.std.proofs.Common.{Some}
use Rattle.tree_checker.proofs.Steps.{closed_reason}
use Rattle.tree_checker.proofs.reasons.open_reason.Goals as goal

pub returns-in_ok-why-in-Closed-clause-reason : goal.returns-in_ok-why-in-Closed-clause-reason
returns-in_ok-why-in-Closed-clause-reason c =
    closed_reason c.args.numbers c.args.sc.now c.args.standing.now c.args.prefix.now c.args.kind.now c.in-Closed.kind (Some c.in_ok-why-in-Closed.why) c.in-Closed.is c.in_ok-why-in-Closed.ensures.reason
