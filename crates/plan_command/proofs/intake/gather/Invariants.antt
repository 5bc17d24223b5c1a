use Rattle.std.proofs.Common.{◌≡◌, ◌+◌, ◌++◌, take}
use Rattle.plan_command.specs.Intakes.{HasNoEndBefore}
use Rattle.plan_command.proofs.intake.gather.Given as goal

abbrev pub invariant-loop-i : goal.invariant-loop-i
invariant-loop-i l = (l.text.items ≡ l.fn.text.items ++ take l.i l.piece) × HasNoEndBefore l.fn.text.items l.piece (l.i + 1)
