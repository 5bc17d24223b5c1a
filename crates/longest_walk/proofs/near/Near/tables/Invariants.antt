use Rattle.std.proofs.Common.{ℕ, ◌≡◌, ◌<◌, length}
use Rattle.longest_walk.specs.Near.{IsNearRow, row_at}
use Rattle.longest_walk.proofs.near.Near.tables.Given as goal

-- the rows so far
abbrev pub invariant-loop-a : goal.invariant-loop-a
invariant-loop-a l = record {
  size : length l.rows.items ≡ l.a;
  each : (b : ℕ) → b < l.a → IsNearRow l.grid l.most b (row_at l.rows.items b);
}
