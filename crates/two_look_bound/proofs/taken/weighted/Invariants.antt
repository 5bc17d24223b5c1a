use Rattle.std.proofs.Common.{◌≡◌, ◌≤◌, ◌*◌, ℕ, length, slice_index, slice_index_or, sum_by}
use Rattle.std.specs.List.{range_with_len}
use Rattle.sweep_table.specs.LookParts.{misses}
use Rattle.edge_bound.specs.Units.{unit_at}
use Rattle.two_look_bound.proofs.taken.weighted.Given as goal

-- the sum over the entries so far
abbrev pub invariant-loop-i : goal.invariant-loop-i
invariant-loop-i l = record {
  sum : l.sum ≡ sum_by (λ (i : ℕ). slice_index l.shares i * unit_at l.table l.t (slice_index_or l.row i (misses 0 0)).cell l.b) (range_with_len 0 l.i);
  inside : l.i ≤ length l.row;
}
