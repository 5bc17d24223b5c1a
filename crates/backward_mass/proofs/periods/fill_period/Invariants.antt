use Rattle.std.proofs.Common.{ℕ, ◌≡◌, ◌+◌, ◌<◌, ◌≤◌, slice_index}
use Rattle.backward_mass.specs.Masses.{backward_of}
use Rattle.backward_mass.proofs.periods.fill_period.Given as goal

-- the masses so far, and those of later periods as they were
abbrev pub invariant-loop-c : goal.invariant-loop-c
invariant-loop-c l = record {
  here : (k : ℕ) → k < l.c → slice_index l.masses (l.here + k) ≡ backward_of l.sc l.looks l.t k;
  later : (i : ℕ) → l.here + l.sc.cells ≤ i → slice_index l.masses i ≡ slice_index l.initial.masses i;
}
