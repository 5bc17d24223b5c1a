use Rattle.std.proofs.Common.{◌+◌, ◌*◌, ◌<◌, ◌≤◌, length}
use Rattle.two_look_bound.specs.Pairs.{HasPairs}
use Rattle.two_look_bound.proofs.rows.go_back.Given as goal

-- the sums of the pairs that begin in a period an even number of periods behind the first look
abbrev pub invariant-loop-m : goal.invariant-loop-m
invariant-loop-m l = record {
  top : length l.given.prefix.now + 1 + 2 * l.m ≤ l.given.sc.now.horizon;
  pairs : length l.given.prefix.now + 1 + 2 * l.m < l.given.sc.now.horizon → HasPairs l.given.sc.now l.given.prefix.now (length l.given.prefix.now + 1 + 2 * l.m) l.pairs;
}
