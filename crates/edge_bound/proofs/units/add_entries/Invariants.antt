use Rattle.std.proofs.Common.{◌≡◌, ◌<◌, ◌+◌, ◌-◌, ◌*◌, ℕ, slice_index, take, length}
use Rattle.drift_chain.specs.DriftRows.{part_in}
use Rattle.sweep_table.specs.LookParts.{factor_of}
use Rattle.edge_bound.proofs.units.add_entries.Given as goal

-- what the entries so far give, and the numbers before this row as they were
abbrev pub invariant-loop-entry : goal.invariant-loop-entry
invariant-loop-entry l = record {
  each : (b : ℕ) → b < l.sc.positions → slice_index l.units (l.here + b) ≡ part_in (take l.entry-index l.row) b * (l.sc.sweep.denominator - factor_of l.sc.sweep l.t b b);
  earlier : (i : ℕ) → i < l.here → slice_index l.units i ≡ slice_index l.initial.units i;
  size : length l.units ≡ length l.initial.units;
}
