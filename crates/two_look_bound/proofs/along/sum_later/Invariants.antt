use Rattle.std.proofs.Common.{◌≡◌, ◌+◌, ◌-◌, ◌≤◌, length, drop, slice_index}
use Rattle.two_look_bound.specs.Pairs.{two_reward_of, sum_pairs}
use Rattle.two_look_bound.proofs.along.sum_later.Given as goal

-- the sum so far and that of the rest are the whole
abbrev pub invariant-loop-n : goal.invariant-loop-n
invariant-loop-n l = record {
  sum : l.sum + sum_pairs (two_reward_of l.given.sc.now l.given.prefix.now) (l.n + 1) (slice_index l.path (l.n - 2)) (slice_index l.path (l.n - 1)) (drop l.n l.path) ≡
      sum_pairs (two_reward_of l.given.sc.now l.given.prefix.now) (length l.given.prefix.now + 2 + 1) (slice_index l.path (length l.given.prefix.now)) (slice_index l.path (length l.given.prefix.now + 1)) (drop (length l.given.prefix.now + 2) l.path);
  start : length l.given.prefix.now + 2 ≤ l.n;
  rows : length l.rows ≡ length l.initial.rows;
}
