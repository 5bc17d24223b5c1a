use Rattle.std.proofs.Common.{ℕ, ◌-◌, length}
use Rattle.longest_walk.specs.Tables.{HasNear}
use Rattle.longest_walk.proofs.Filling.{HasSumsOf, NearPositions}
use Rattle.longest_walk.proofs.rows.fill_near_rows.Given as goal

-- the rows of the periods from t on are filled
abbrev pub invariant-loop-t : goal.invariant-loop-t
invariant-loop-t l = (r : ℕ → ℕ → ℕ) → HasNear l.grid (length l.grid) l.horizon r l.from l.k l.rewards →
    HasSumsOf l.grid l.horizon r (NearPositions l.grid l.from l.k) (l.t - 1) l.sums
