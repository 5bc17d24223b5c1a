use Rattle.std.proofs.Common.{◌≡◌, Err, arith}
use Rattle.std.proofs.lemmas.Grind.{common_steps}
use Rattle.scenario_text.proofs.FrontLines.{front_ended, front_room, alone_fault, IsTextOf-read}
use Rattle.scenario_text.proofs.Answered.{stop_alone}
use Rattle.scenario_text.proofs.scenarios.read_alone.Goals as goal

pub overflow_add-end : goal.overflow_add-end
overflow_add-end c =
    let room = front_room c.args.text.now _ c.in_ok-end.ensures.0 in
    omega (arith, room)

pub first_said-requires : goal.first_said-requires
first_said-requires c =
    let room = front_room c.args.text.now _ c.in_ok-end.ensures.0 in
    rw (c.in_ok-end.ensures.2) (omega (arith, room))

pub assemble-requires-clause-whole : goal.assemble-requires-clause-whole
assemble-requires-clause-whole c = front_ended c.args.text.now _ c.in_ok-end.ensures.0

pub returns : goal.returns
returns c = IsTextOf-read c.args.text.now c.in_ok-end.end.rest.now _ _ c.in_ok-end.ensures.0 c.in_ok-end.ensures.2 c.in_default.ensures c.in_ok-assemble.ensures

pub returns-in-Some : goal.returns-in-Some
returns-in-Some c = alone_fault c.args.text.now c.in_ok-end.end.rest.now _ c.in-Some.line c.in_ok-end.ensures.0 c.in_ok-end.ensures.2 c.in-Some.ensures

pub returns-in_err-end : goal.returns-in_err-end
returns-in_err-end c =
    let stop = c.in_err-end.field-0.0 in
    let is : c.from_residual.result ≡ Err stop = grind (arith, common_steps, c.from_residual.ensures.0, c.from_residual.ensures.1) in
    rw is (stop_alone c.args.text.now c.read_draft.new.draft stop c.in_err-end.ensures)
