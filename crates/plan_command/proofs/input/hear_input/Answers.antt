use Rattle.plan_command.specs.declared.request.TheConstants.{MOST_JUDGED}
use Rattle.plan_command.proofs.Unread.{unread}
use Rattle.plan_command.proofs.input.hear_input.Goals as goal

pub returns-in-Err : goal.returns-in-Err
returns-in-Err g c = unread g.S.Source.left g.S.Source.faults g.S.Source.read_gives MOST_JUDGED c.args.source.now
