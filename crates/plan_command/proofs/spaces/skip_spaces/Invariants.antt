use Rattle.std.proofs.Common.{◌≡◌, take, true}
use Rattle.std.specs.List.{list_all}
use Rattle.plan_command.specs.Spaces.{is_space}
use Rattle.plan_command.proofs.spaces.skip_spaces.Given as goal

abbrev pub invariant-loop-i : goal.invariant-loop-i
invariant-loop-i l = list_all is_space (take l.i l.text) ≡ true
