use Rattle.std.proofs.Common.{ℕ, ◌≡◌, ◌+◌, ◌*◌, ◌<◌, length, slice_index}
use Rattle.sweep_table.specs.LookParts.{factor_of}
use Rattle.backward_mass.specs.Masses.{backward_of}
use Rattle.backward_mass.proofs.periods.weigh.Given as goal

-- what is missed of the masses so far
abbrev pub invariant-loop-d : goal.invariant-loop-d
invariant-loop-d l = record {
  size : length l.missed ≡ l.sc.cells;
  missed : (k : ℕ) → k < l.d → slice_index l.missed k ≡ factor_of l.sc.sweep (l.t + 1) (slice_index l.looks l.t) k * backward_of l.sc l.looks (l.t + 1) k;
}
