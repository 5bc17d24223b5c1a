use Rattle.plan_command.proofs.Heard.{node_heard}
use Rattle.plan_command.proofs.hearing.hear_node.Goals as goal

pub returns : goal.returns
returns c = λ family told head heard.
    node_heard family c.args.sc.now told _ head c.args.checker.now c.take.new.self heard c.take.ensures.reason c.take.ensures.under_way c.take.ensures.line c.take.ensures.made
