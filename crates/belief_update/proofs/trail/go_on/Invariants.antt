use Rattle.std.proofs.Common.{◌≡◌, ◌+◌}
use Rattle.belief_update.specs.Trails.{AreRows}
use Rattle.belief_update.proofs.trail.go_on.Given as goal

-- the beliefs up to look i, and a step for each of the looks that were made
abbrev pub invariant-loop-i : goal.invariant-loop-i
invariant-loop-i g l = record {
  rows : AreRows l.sc l.looks l.i l.rows l.ahead;
  counted : l.steps + l.same ≡ l.initial.steps + l.i;
}
