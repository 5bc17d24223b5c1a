use Rattle.std.proofs.Common.{◌≡◌, ◌<◌, ◌+◌, ◌*◌, ℕ, slice_index}
use Rattle.edge_bound.specs.Found.{one_of}
use Rattle.edge_bound.proofs.units.fill_block.Given as goal

-- the cells so far, and the numbers before this block as they were
abbrev pub invariant-loop-c : goal.invariant-loop-c
invariant-loop-c l = record {
  each : (c b : ℕ) → c < l.c → b < l.sc.positions → slice_index l.units (l.here + (c * l.sc.positions + b)) ≡ one_of l.sc l.t c b;
  earlier : (i : ℕ) → i < l.here → slice_index l.units i ≡ slice_index l.initial.units i;
}
