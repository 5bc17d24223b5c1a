use Rattle.std.proofs.Common.{◌≡◌, ◌*◌, ◌-◌, ◌<◌, ℕ, length, slice_index, slice_index_or, sum_by, take}
use Rattle.sweep_table.specs.LookParts.{misses}
use Rattle.belief_update.specs.Masses.{mass_of, looks_to}
use Rattle.belief_update.specs.Found.{found_in}
use Rattle.edge_bound.proofs.shares.fill_shares.Given as goal

-- the entries so far
abbrev pub invariant-loop-i : goal.invariant-loop-i
invariant-loop-i l = record {
  sum : l.sum ≡ sum_by (found_in l.sc (mass_of l.sc (looks_to (l.t - 1) l.prefix))) (take l.i l.row) * l.parts;
  each : (k : ℕ) → k < l.i → slice_index l.shares k ≡ found_in l.sc (mass_of l.sc (looks_to (l.t - 1) l.prefix)) (slice_index_or l.row k (misses 0 0)) * l.parts;
  room : length l.shares ≡ length l.initial.shares;
}
