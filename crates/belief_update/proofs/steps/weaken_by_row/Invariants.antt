use Rattle.std.proofs.Common.{◌≡◌, ◌<◌, ◌≤◌, ◌*◌, ℕ, slice_index}
use Rattle.sweep_table.specs.LookParts.{factor_of}
use Rattle.belief_update.specs.Places.{IsPlaceOf}
use Rattle.belief_update.proofs.steps.weaken_by_row.Given as goal

abbrev pub invariant-loop-c : goal.invariant-loop-c
invariant-loop-c l = record {
  done : (k : ℕ) → k < l.c → slice_index l.masses k ≡ slice_index l.fn.masses k * factor_of l.sweep l.t l.a k;
  rest : (k : ℕ) → l.c ≤ k → slice_index l.masses k ≡ slice_index l.fn.masses k;
  place : IsPlaceOf l.c l.row l.next;
}
