use Rattle.std.proofs.Common.{Some, Err, subst}
use Rattle.plan_command.specs.declared.judge.Task.{Task}
use Rattle.plan_command.specs.declared.request.TheConstants.{MOST_JUDGED}
use Rattle.plan_command.specs.Inputs.{Source, Course, source_view, went, ReadsAnd}
use Rattle.plan_command.specs.Intakes.{JudgesAs}
use Rattle.plan_command.specs.Asked.{request_of}
use Rattle.plan_command.proofs.Inputs.{made_read}
use Rattle.plan_command.proofs.Asking.{unjudged_read}
use Rattle.plan_command.proofs.input.judged_input.Goals as goal

pub answer_judged-requires : goal.answer_judged-requires
answer_judged-requires g c =
    let (input, read, judges) = c.in-Ok.ensures in
    (input, rw c.task.ensures at judges)

pub returns-in-Ok : goal.returns-in-Ok
returns-in-Ok g c = λ words.
    let before : Source = source_view g.S.Source.left g.S.Source.faults c.args.source.now in
    let after : Source = source_view g.S.Source.left g.S.Source.faults c.hear_input.new.source in
    let gone : Course → Type 0 = went g.S.Source.read_gives c.args.source.now c.hear_input.new.source in
    let (input, read, judges) = c.in-Ok.ensures in
    made_read gone words (request_of c.args.asked) (Some MOST_JUDGED) before after input c.answer_judged.result read (c.answer_judged.ensures words input (rw c.task.ensures at judges))

pub returns-in-Err : goal.returns-in-Err
returns-in-Err g c = λ words.
    let before : Source = source_view g.S.Source.left g.S.Source.faults c.args.source.now in
    let after : Source = source_view g.S.Source.left g.S.Source.faults c.hear_input.new.source in
    let gone : Course → Type 0 = went g.S.Source.read_gives c.args.source.now c.hear_input.new.source in
    let read = subst (λ (t : Task). ReadsAnd gone (Some MOST_JUDGED) before after (JudgesAs t) (Err c.in-Err.stop)) c.task.ensures c.in-Err.ensures in
    unjudged_read c.args.asked words gone (Some MOST_JUDGED) before after c.in-Err.stop read
