use Rattle.std.proofs.Common.{take}
use Rattle.belief_update.specs.Taken.{IsTakenTo}
use Rattle.belief_update.proofs.along.take_along.Given as goal

-- what the looks so far took
abbrev pub invariant-loop-n : goal.invariant-loop-n
invariant-loop-n l = IsTakenTo l.sc (take l.k l.path) l.path l.n l.taken
