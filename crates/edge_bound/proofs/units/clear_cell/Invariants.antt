use Rattle.std.proofs.Common.{◌≡◌, ◌<◌, ◌+◌, ℕ, slice_index}
use Rattle.edge_bound.proofs.units.clear_cell.Given as goal

-- the positions so far, and the numbers before this row as they were
abbrev pub invariant-loop-b : goal.invariant-loop-b
invariant-loop-b l = record {
  each : (b : ℕ) → b < l.b → slice_index l.units (l.here + b) ≡ 0;
  earlier : (i : ℕ) → i < l.here → slice_index l.units i ≡ slice_index l.initial.units i;
}
