use Rattle.plan_command.specs.Inputs.{Source, went}
use Rattle.plan_command.specs.Intakes.{JudgesAs}
use Rattle.plan_command.proofs.Inputs.{judged_read, stop_read}
use Rattle.plan_command.proofs.input.hear_pieces.Goals as goal
use Rattle.plan_command.specs.declared.request.TheConstants.{MOST_JUDGED}

pub returns-in-Ok : goal.returns-in-Ok
returns-in-Ok g c =
    judged_read c.args.task g.S.Source.left g.S.Source.faults g.S.Source.read_gives MOST_JUDGED c.args.source.now c.read_pieces.new.source
    c.new-intake.result c.read_pieces.new.receiver c.finish.result c.in-Ok.ensures.ok c.in-Ok.ensures.cause.kept c.new-intake.ensures (c.finish.ensures c.args.task)

pub returns-in-Err : goal.returns-in-Err
returns-in-Err g c =
    let before : Source = record { left = g.S.Source.left c.args.source.now; faults = g.S.Source.faults c.args.source.now } in
    let after : Source = record { left = g.S.Source.left c.read_pieces.new.source; faults = g.S.Source.faults c.read_pieces.new.source } in
    stop_read (went g.S.Source.read_gives c.args.source.now c.read_pieces.new.source) MOST_JUDGED before after (JudgesAs c.args.task) c.in-Err.stop c.unread.result c.unread.ensures.fault c.unread.ensures.too_long c.in-Err.ensures.too_long c.in-Err.ensures.taken c.in-Err.ensures.cause c.in-Err.ensures.reads_fault c.in-Err.ensures.reads_too_long
