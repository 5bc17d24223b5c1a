use Rattle.std.proofs.Common.{◌+◌, ◌≤◌, length}
use Rattle.edge_bound.specs.Moves.{HasGains}
use Rattle.edge_bound.proofs.rows.go_back.Given as goal

-- the rewards and sums of period t
abbrev pub invariant-loop-t : goal.invariant-loop-t
invariant-loop-t l = record {
  start : length l.prefix + 1 ≤ l.t;
  gains : HasGains l.sc l.prefix l.t l.gains;
}
