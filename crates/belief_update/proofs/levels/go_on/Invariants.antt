use Rattle.std.proofs.Common.{◌≡◌, length}
use Rattle.belief_update.specs.Levels.{AreLevels}
use Rattle.belief_update.specs.Flows.{AreFlows}
use Rattle.belief_update.proofs.levels.go_on.Given as goal

-- the levels up to look i, and the flows
abbrev pub invariant-loop-i : goal.invariant-loop-i
invariant-loop-i l = record {
  levels : AreLevels l.sc l.looks l.i l.levels;
  room : length l.taken.masses ≡ l.sc.cells;
  flows : AreFlows l.sc l.flows;
}
