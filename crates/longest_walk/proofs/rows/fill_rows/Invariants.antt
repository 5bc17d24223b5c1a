use Rattle.std.proofs.Common.{◌-◌, length}
use Rattle.longest_walk.specs.Tables.{HasSums}
use Rattle.longest_walk.proofs.rows.fill_rows.Given as goal

-- the rows of the periods from t on are filled
abbrev pub invariant-loop-t : goal.invariant-loop-t
invariant-loop-t l = HasSums l.grid (length l.grid) l.horizon l.rewards (l.t - 1) l.sums
