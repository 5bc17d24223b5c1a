use Rattle.std.proofs.Common.{◌≡◌, ◌<◌, ◌*◌, ◌-◌, ℕ, slice_index, take}
use Rattle.sweep_table.specs.LookParts.{factor_in}
use Rattle.belief_update.proofs.taken.find_by_row.Given as goal

-- what is found by the entries so far
abbrev pub invariant-loop-entry : goal.invariant-loop-entry
invariant-loop-entry l = (k : ℕ) → k < l.sc.cells → slice_index l.found k ≡ slice_index l.ahead.masses k * (l.sc.sweep.denominator - factor_in l.sc.sweep.denominator (take l.entry-index l.entry-items) k)
