use Rattle.std.proofs.Common.{◌≡◌, length}
use Rattle.longest_walk.specs.Near.{AreMarks, IsGrown}
use Rattle.longest_walk.proofs.near.grow.Given as goal

-- the moves of the positions so far are there
abbrev pub invariant-loop-i : goal.invariant-loop-i
invariant-loop-i l = record {
  grown : IsGrown l.grid l.from l.i l.initial.order.items l.order.items;
  marked : AreMarks l.order.items l.marks;
  size : length l.marks ≡ length l.initial.marks;
}
