use Rattle.std.proofs.Common.{◌≡◌, sum_by, take}
use Rattle.backward_mass.proofs.RowSteps.{mass_term}
use Rattle.backward_mass.proofs.periods.mass_before.Given as goal

abbrev pub invariant-loop-entry : goal.invariant-loop-entry
invariant-loop-entry l = l.sum ≡ sum_by (mass_term l.missed) (take l.entry-index l.entry-items)
