use Rattle.std.proofs.Common.{◌≡◌, slice_index, sum_by, take}
use Rattle.belief_update.specs.Found.{found_in}
use Rattle.belief_update.proofs.finds.found_by_row.Given as goal

-- what is found in the cells so far
abbrev pub invariant-loop-entry : goal.invariant-loop-entry
invariant-loop-entry l = l.sum ≡ sum_by (found_in l.sc (slice_index l.masses)) (take l.entry-index l.entry-items)
