use Rattle.std.proofs.Common.{◌≡◌, ◌-◌, ap, length, length-drop, ◌++◌, ◌∙◌, ℕ, List, take, refl, subst, arith}
use Rattle.tree_format.specs.Feeding.{IsDecided}
use Rattle.plan_command.specs.declared.judge.Task.{Task}
use Rattle.plan_command.specs.Intakes.{HasTakenText, KeepsWhereShort}
use Rattle.plan_command.proofs.Judging.{taken_none, taken_on, taken_all, decided_part, if_fault}
use Rattle.plan_command.proofs.judge.Judge.take_text.Goals as goal

pub loop-done-init : goal.loop-done-init
loop-done-init c = record { within = omega arith; scenario = refl; task = refl; begun = refl; taken = λ task before h. taken_none task before c.args.text.now c.args.self.now h }

pub take_some-requires-clause-begun : goal.take_some-requires-clause-begun
take_some-requires-clause-begun c = (c.requires.0, c.requires.1 ++ take c.loop-done.done c.args.text.now, c.loop-done.invariant.taken c.requires.0 c.requires.1 c.requires.2)

pub loop-done-preserved : goal.loop-done-preserved
loop-done-preserved c =
    let inv = c.loop-done.invariant in
    let left : length c.rest_from.result.now ≡ length c.args.text.now - c.loop-done.done = ap (λ (t : List ℕ). length t) c.rest_from.ensures ∙ length-drop c.loop-done.done c.args.text.now in
    record {
      within = omega (arith, left, inv.within, c.in-Ok.ensures.used);
      scenario = c.take_some.ensures.scenario ∙ inv.scenario;
      task = c.take_some.ensures.task ∙ inv.task;
      begun = c.take_some.ensures.begun ∙ inv.begun;
      taken = λ task before h. taken_on (λ (t : List ℕ). HasTakenText task t c.take_some.new.self) before c.args.text.now c.loop-done.done c.in-Ok.used
          (subst (λ (t : List ℕ). HasTakenText task (before ++ take c.loop-done.done c.args.text.now ++ take c.in-Ok.used t) c.take_some.new.self) c.rest_from.ensures
          (c.in-Ok.ensures.taken task (before ++ take c.loop-done.done c.args.text.now) (inv.taken task before h)));
    }

pub returns-in-Err-clause-fault : goal.returns-in-Err-clause-fault
returns-in-Err-clause-fault c = if_fault ℕ (Unit {0}) c.in-Err.stop
    (λ fault decides task before h.
    decided_part task.family c.loop-done.self.sc c.args.self.now.sc before c.args.text.now c.loop-done.done fault c.loop-done.invariant.scenario
    (subst (λ (t : List ℕ). IsDecided task.family c.loop-done.self.sc (before ++ take c.loop-done.done c.args.text.now ++ t) fault) c.rest_from.ensures
    (decides task (before ++ take c.loop-done.done c.args.text.now) (c.loop-done.invariant.taken task before h))))
    c.in-Err.ensures.fault

pub returns-in-Err-clause-free : goal.returns-in-Err-clause-free
returns-in-Err-clause-free c = subst (λ (task : Task). KeepsWhereShort task.keeps c.in-Err.stop) c.loop-done.invariant.task c.in-Err.ensures.free

pub returns-clause-taken : goal.returns-clause-taken
returns-clause-taken c = λ task before h. taken_all (λ (t : List ℕ). HasTakenText task t c.loop-done.self) before c.args.text.now c.loop-done.done (omega (arith, c.loop-done-test.false)) (c.loop-done.invariant.taken task before h)
