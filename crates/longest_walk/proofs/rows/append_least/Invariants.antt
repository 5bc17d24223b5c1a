use Rattle.std.proofs.Common.{ℕ, ◌≡◌, ◌+◌, ◌-◌, ◌≤◌, ◌<◌, List, ◌++◌, length, drop}
use Rattle.search_model.specs.Order.{Starts}
use Rattle.search_model.specs.Reference.{IsLeastBest}
use Rattle.longest_walk.specs.Near.{IsNear}
use Rattle.longest_walk.specs.Tables.{HasSumsNear}
use Rattle.longest_walk.proofs.rows.append_least.Given as goal

-- what was there, the positions so far, and the least walk from the last of them
abbrev pub invariant-loop-t : goal.invariant-loop-t
invariant-loop-t l = record {
  begun : length l.fn.to ≤ l.t;
  position : l.at < length l.grid;
  near : IsNear l.grid (l.t - length l.fn.to) l.fn.from l.at;
  long : length l.to ≡ l.t;
  kept : Starts l.fn.to l.to;
  least : (r : ℕ → ℕ → ℕ) (y : List ℕ) → HasSumsNear l.grid (length l.grid) l.horizon r l.fn.from (length l.fn.to) l.sums →
      IsLeastBest l.grid r (l.horizon - l.t) (l.t + 1) l.at y →
      IsLeastBest l.grid r (l.horizon - length l.fn.to) (length l.fn.to + 1) l.fn.from (drop (length l.fn.to) l.to ++ y);
}
