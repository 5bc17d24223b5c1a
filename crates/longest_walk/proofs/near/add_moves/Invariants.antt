use Rattle.std.proofs.Common.{◌≡◌, length, take}
use Rattle.longest_walk.specs.Near.{AreMarks, IsJoined}
use Rattle.longest_walk.proofs.near.add_moves.Given as goal

-- the moves so far are there
abbrev pub invariant-loop-v : goal.invariant-loop-v
invariant-loop-v l = record {
  joined : IsJoined l.initial.order.items (take l.v-index l.moves) l.order.items;
  marked : AreMarks l.order.items l.marks;
  size : length l.marks ≡ length l.initial.marks;
}
