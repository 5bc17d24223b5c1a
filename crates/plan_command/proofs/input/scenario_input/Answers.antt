use Rattle.std.proofs.Common.{ℕ, List, Some, subst}
use Rattle.std.specs.Global.{Vec}
use Rattle.plan_command.specs.declared.request.TheConstants.{MOST_SCENARIO}
use Rattle.plan_command.specs.Inputs.{Source, Course, source_view, went}
use Rattle.plan_command.specs.Makes.{MakesOf}
use Rattle.plan_command.proofs.Inputs.{made_read}
use Rattle.plan_command.proofs.Asking.{unread_alike}
use Rattle.plan_command.proofs.input.scenario_input.Goals as goal

pub returns-in-Ok : goal.returns-in-Ok
returns-in-Ok g c = λ words request asks.
    let before : Source = source_view g.S.Source.left g.S.Source.faults c.args.source.now in
    let after : Source = source_view g.S.Source.left g.S.Source.faults c.read_input.new.source in
    let gone : Course → Type 0 = went g.S.Source.read_gives c.args.source.now c.read_input.new.source in
    let makes = subst (λ (input : List ℕ). MakesOf words request input c.answer_scenario.result) c.deref.ensures.value (c.answer_scenario.ensures words request asks) in
    made_read gone words request (Some MOST_SCENARIO) before after c.in-Ok.input.items c.answer_scenario.result c.in-Ok.ensures makes

pub returns-in-Err : goal.returns-in-Err
returns-in-Err g c = λ words request asks.
    let before : Source = source_view g.S.Source.left g.S.Source.faults c.args.source.now in
    let after : Source = source_view g.S.Source.left g.S.Source.faults c.read_input.new.source in
    let gone : Course → Type 0 = went g.S.Source.read_gives c.args.source.now c.read_input.new.source in
    unread_alike {V = Vec ℕ} (λ v. v.items) gone (Some MOST_SCENARIO) before after (MakesOf words request) c.in-Err.stop c.in-Err.ensures
