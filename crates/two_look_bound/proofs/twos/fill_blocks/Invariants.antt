use Rattle.std.proofs.Common.{◌<◌, ◌+◌, ◌*◌, ℕ}
use Rattle.two_look_bound.specs.Rooms.{HasTwosBlock}
use Rattle.two_look_bound.proofs.twos.fill_blocks.Given as goal

-- the periods so far
abbrev pub invariant-loop-n : goal.invariant-loop-n
invariant-loop-n l = (m : ℕ) → m < l.n → HasTwosBlock l.sc (m + 2) l.numbers (m * (l.sc.cells * l.sc.positions))
