use Rattle.std.proofs.Common.{Err, subst}
use Rattle.scenario_text.specs.declared.stop.TextStop.{TextStop}
use Rattle.scenario_text.specs.Scenarios.{ReadsAlone}
use Rattle.plan_command.proofs.Asking.{faulty, answered}
use Rattle.plan_command.proofs.answer.answer_scenario.Goals as goal

pub returns-in-Ok : goal.returns-in-Ok
returns-in-Ok g c = λ words request asks. answered words request c.args.asked.now c.args.input.now asks c.in-Ok.sc c.made_of-made.result c.done.result c.in-Ok.ensures.reads c.made_of-made.ensures c.done.ensures

pub returns-in-Err-Fault : goal.returns-in-Err-Fault
returns-in-Err-Fault g c = λ words request asks.
    let bad = subst (λ (s : TextStop). ReadsAlone c.args.input.now (Err s)) c.in-Err-Fault.field-0-is c.in-Err-Fault.ensures.reads in
    faulty words request c.args.asked.now c.args.input.now asks c.in-Err-Fault.fault bad
