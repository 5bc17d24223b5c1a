use Rattle.std.proofs.Common.{◌≡◌, ◌+◌, ◌-◌, length, drop, slice_index}
use Rattle.search_model.specs.Edge.{edge_reward_of, sum_moves, edge_sum}
use Rattle.edge_bound.proofs.along.sum_after.Given as goal

-- the sum so far and that of the rest are the whole
abbrev pub invariant-loop-n : goal.invariant-loop-n
invariant-loop-n l =
    l.sum + sum_moves (edge_reward_of l.sc l.prefix) (l.n + 1) (slice_index l.path (l.n - 1)) (drop l.n l.path) ≡ edge_sum l.sc l.prefix (drop (length l.prefix) l.path)
