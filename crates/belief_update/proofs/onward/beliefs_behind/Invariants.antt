use Rattle.std.proofs.Common.{◌≡◌, length}
use Rattle.belief_update.specs.Onward.{HaveCellsFrom}
use Rattle.belief_update.proofs.onward.beliefs_behind.Given as goal

-- one belief for each period so far
abbrev pub invariant-loop-t : goal.invariant-loop-t
invariant-loop-t l = record {
  size : length l.rows.items ≡ l.t;
  cells : HaveCellsFrom l.sc l.k l.rows.items;
}
