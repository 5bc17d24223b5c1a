use Rattle.std.proofs.Common.{◌≡◌, ◌<◌, ◌-◌, ◌*◌, ℕ, length, slice_index, take}
use Rattle.belief_update.specs.Flows.{held_in}
use Rattle.belief_update.proofs.steps.take_off.Given as goal

abbrev pub invariant-loop-entry : goal.invariant-loop-entry
invariant-loop-entry l = (d : ℕ) → d < length l.masses → slice_index l.masses d ≡ slice_index l.fn.masses d - l.units * held_in (take l.entry-index l.entries) d
