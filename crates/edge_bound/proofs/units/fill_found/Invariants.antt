use Rattle.std.proofs.Common.{◌≡◌, ◌<◌, ◌+◌, ℕ, slice_index}
use Rattle.belief_update.specs.Found.{found_of}
use Rattle.edge_bound.proofs.units.fill_found.Given as goal

-- the positions so far, and the numbers before these as they were
abbrev pub invariant-loop-b : goal.invariant-loop-b
invariant-loop-b l = record {
  each : (b : ℕ) → b < l.b → slice_index l.numbers (l.here + b) ≡ found_of l.sc l.t b (slice_index l.masses);
  earlier : (i : ℕ) → i < l.here → slice_index l.numbers i ≡ slice_index l.initial.numbers i;
}
