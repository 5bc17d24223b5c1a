use Rattle.std.proofs.Common.{refl}
use Rattle.std.specs.Prelude.{map, string_bytes}
use Rattle.plan_command.specs.Inputs.{Course, went}
use Rattle.plan_command.specs.Run.{Call, call}
use Rattle.plan_command.proofs.Inputs.{ends_served, ends_stopped, served_unused, err_unused, stopped_unused, spelled_asked}
use Rattle.plan_command.proofs.serving.serve.Goals as goal

pub answer_for-requires-clause-asked : goal.answer_for-requires-clause-asked
answer_for-requires-clause-asked g c = λ κs ls. spelled_asked (map string_bytes c.args.words.now) c.args.request c.requires.spelled

pub returns-in-Ok-clause-ends : goal.returns-in-Ok-clause-ends
returns-in-Ok-clause-ends g c =
    let gone : Course → Type 0 = went g.S.Source.read_gives c.args.source.now c.answer_for.new.source in
    let here : Call gone =
    call g.S.Source.read_gives (map string_bytes c.args.words.now) g.S.Source.left g.S.Source.faults g.K.Sink.wrote g.K.Sink.faults c.args.source.now c.answer_for.new.source c.args.out.now c.deliver.new.out in
    ends_served gone here c.args.request c.in-Ok.answer c.deliver.result c.requires.spelled c.in-Ok.ensures.made c.deliver.ensures.whole c.deliver.ensures.front c.deliver.ensures.cause

pub returns-in-Ok-clause-used : goal.returns-in-Ok-clause-used
returns-in-Ok-clause-used g c = λ same. served_unused _ c.deliver.result c.deliver.ensures.cause same

pub returns-in-Err-clause-ends : goal.returns-in-Err-clause-ends
returns-in-Err-clause-ends g c =
    let gone : Course → Type 0 = went g.S.Source.read_gives c.args.source.now c.answer_for.new.source in
    let here : Call gone =
    call g.S.Source.read_gives (map string_bytes c.args.words.now) g.S.Source.left g.S.Source.faults g.K.Sink.wrote g.K.Sink.faults c.args.source.now c.answer_for.new.source c.args.out.now c.args.out.now in
    ends_stopped gone here c.args.request c.in-Err.stop c.requires.spelled c.in-Err.ensures.made refl

pub returns-in-Err-clause-used : goal.returns-in-Err-clause-used
returns-in-Err-clause-used g c =
    λ same. stopped_unused (went g.S.Source.read_gives c.args.source.now c.answer_for.new.source) (map string_bytes c.args.words.now) c.args.request _ _ c.in-Err.stop (err_unused c.in-Err.stop same) c.in-Err.ensures.made
