use Rattle.std.proofs.Common.{◌≡◌, length}
use Rattle.belief_update.specs.Onward.{IsMadeFor}
use Rattle.belief_update.specs.Levels.{AreRooms, level_at}
use Rattle.belief_update.proofs.levels.rooms.Given as goal

-- one level for each number of looks so far
abbrev pub invariant-loop-k : goal.invariant-loop-k
invariant-loop-k l = record {
  size : length l.levels.items ≡ l.k;
  first : IsMadeFor l.sc (level_at l.levels.items 0);
  made : AreRooms l.sc l.levels.items;
}
