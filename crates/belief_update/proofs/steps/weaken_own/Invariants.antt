use Rattle.std.proofs.Common.{◌≡◌, ◌<◌, ◌≤◌, ◌*◌, ◌∷◌, [], ℕ, slice_index}
use Rattle.sweep_table.specs.LookParts.{factor_in, misses}
use Rattle.belief_update.proofs.steps.weaken_own.Given as goal

abbrev pub invariant-loop-c : goal.invariant-loop-c
invariant-loop-c l = record {
  done : (k : ℕ) → k < l.c → slice_index l.masses k ≡ slice_index l.fn.masses k * factor_in l.whole (misses l.a l.part ∷ []) k;
  rest : (k : ℕ) → l.c ≤ k → slice_index l.masses k ≡ slice_index l.fn.masses k;
}
