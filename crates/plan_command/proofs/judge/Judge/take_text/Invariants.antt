use Rattle.std.proofs.Common.{◌≡◌, ◌≤◌, ◌-◌, ◌++◌, ℕ, List, length, take}
use Rattle.plan_command.specs.declared.judge.Task.{Task}
use Rattle.plan_command.specs.Intakes.{HasTakenText}
use Rattle.plan_command.proofs.judge.Judge.take_text.Given as goal

abbrev pub invariant-loop-done : goal.invariant-loop-done
invariant-loop-done l = record {
  within : l.done ≤ length l.text;
  scenario : l.self.sc ≡ l.fn.self.sc;
  task : l.self.task ≡ l.fn.self.task;
  begun : l.self.begun ≡ l.fn.self.begun;
  taken : (task : Task) (before : List ℕ) → HasTakenText task before l.fn.self → HasTakenText task (before ++ take l.done l.text) l.self;
}

abbrev pub decreases-loop-done : goal.decreases-loop-done
decreases-loop-done l = length l.text - l.done
