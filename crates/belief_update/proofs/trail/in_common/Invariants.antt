use Rattle.std.proofs.Common.{◌≡◌, ◌+◌, drop}
use Rattle.belief_update.specs.Trails.{common_of}
use Rattle.belief_update.proofs.trail.in_common.Given as goal

-- what was passed is in common
abbrev pub invariant-loop-i : goal.invariant-loop-i
invariant-loop-i l = common_of l.left l.right ≡ l.i + common_of (drop l.i l.left) (drop l.i l.right)
