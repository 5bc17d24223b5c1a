use Rattle.std.proofs.Common.{◌≡◌, ◌+◌, drop}
use Rattle.search_model.specs.Bounds.{sum_along}
use Rattle.longest_walk.specs.Sums.{entry_at}
use Rattle.tangent_bound.proofs.gains.sum_after.Given as goal

-- the sum so far and that of the rest are the whole
abbrev pub invariant-loop-n : goal.invariant-loop-n
invariant-loop-n l = l.sum + sum_along (entry_at l.positions l.gains) (l.n + 1) (drop l.n l.path) ≡ sum_along (entry_at l.positions l.gains) (l.k + 1) (drop l.k l.path)
