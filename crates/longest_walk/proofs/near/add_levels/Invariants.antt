use Rattle.std.proofs.Common.{◌≡◌, length}
use Rattle.longest_walk.specs.Near.{AreMarks, IsLevel}
use Rattle.longest_walk.proofs.near.add_levels.Given as goal

-- the positions within n moves
abbrev pub invariant-loop-n : goal.invariant-loop-n
invariant-loop-n l = record {
  level : IsLevel l.grid l.n l.a l.from l.row;
  marked : AreMarks l.row.order l.marks;
  size : length l.marks ≡ length l.initial.marks;
}
