use Rattle.std.proofs.Common.{◌≡◌, ◌<◌, ◌+◌, ◌*◌, ℕ, length, slice_index, take}
use Rattle.drift_chain.specs.DriftRows.{part_in}
use Rattle.belief_update.proofs.steps.spread.Given as goal

abbrev pub invariant-loop-entry : goal.invariant-loop-entry
invariant-loop-entry l = (d : ℕ) → d < length l.next → slice_index l.next d ≡ slice_index l.fn.next d + l.mass * part_in (take l.entry-index l.row) d
