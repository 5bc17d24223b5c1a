use Rattle.std.proofs.Common.{length, ◌-◌, ◌≡◌, ◌<◌, ◌≤◌, ◌*◌, ℕ, slice_index, sum_by}
use Rattle.std.specs.List.{range_with_len}
use Rattle.drift_chain.specs.DriftRows.{part_of}
use Rattle.belief_update.proofs.steps.move_on.Given as goal

-- what the cells before the next one with a mass send on
abbrev pub invariant-loop-c : goal.invariant-loop-c
invariant-loop-c l = record {
  inside : l.c ≤ length l.masses;
  sums : (d : ℕ) → d < length l.masses → slice_index l.next d ≡ sum_by (λ c. slice_index l.masses c * part_of l.drift l.t c d) (range_with_len 0 l.c);
}

abbrev pub decreases-loop-c : goal.decreases-loop-c
decreases-loop-c l = length l.masses - l.c
