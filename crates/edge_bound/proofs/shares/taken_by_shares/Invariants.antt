use Rattle.std.proofs.Common.{◌≡◌, ◌*◌, sum_by, take}
use Rattle.belief_update.specs.Found.{found_in}
use Rattle.edge_bound.specs.After.{through, parts_after}
use Rattle.edge_bound.proofs.shares.taken_by_shares.Given as goal

-- what is taken in the cells so far
abbrev pub invariant-loop-i : goal.invariant-loop-i
invariant-loop-i l = l.sum ≡ sum_by (found_in l.sc (through l.sc l.prefix l.t l.b)) (take l.i l.row) * parts_after l.sc l.prefix l.t
