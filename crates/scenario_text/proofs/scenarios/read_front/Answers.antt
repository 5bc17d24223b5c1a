use Rattle.std.proofs.Common.{◌≡◌, Err, refl, arith}
use Rattle.std.proofs.lemmas.Grind.{common_steps}
use Rattle.text_rows.proofs.LineCuts.{after_short}
use Rattle.scenario_text.proofs.FrontLines.{front_ended, IsFront-read}
use Rattle.scenario_text.proofs.Answered.{stop_front}
use Rattle.scenario_text.proofs.scenarios.read_front.Goals as goal

pub overflow_sub-bytes : goal.overflow_sub-bytes
overflow_sub-bytes c = rw (c.in_ok-end.ensures.2) (after_short c.in_ok-end.end.line c.args.text.now)

pub assemble-requires-clause-whole : goal.assemble-requires-clause-whole
assemble-requires-clause-whole c = front_ended c.args.text.now _ c.in_ok-end.ensures.0

pub returns : goal.returns
returns c = IsFront-read c.args.text.now c.in_ok-end.end.rest.now _ _ _ c.in_ok-end.ensures.0 c.in_ok-end.ensures.2 c.in_ok-scenario.ensures refl

pub returns-in_err-end : goal.returns-in_err-end
returns-in_err-end c =
    let stop = c.in_err-end.field-0.0 in
    let is : c.from_residual.result ≡ Err stop = grind (arith, common_steps, c.from_residual.ensures.0, c.from_residual.ensures.1) in
    rw is (stop_front c.args.text.now c.read_draft.new.draft stop c.in_err-end.ensures)
