use Rattle.std.proofs.Common.{◌≡◌, ◌<◌, ◌≤◌, ℕ, slice_index}
use Rattle.belief_update.proofs.steps.next_mass.Given as goal

-- no cell so far has a mass
abbrev pub invariant-loop-c : goal.invariant-loop-c
invariant-loop-c l = (k : ℕ) → l.from ≤ k → k < l.c → slice_index l.masses k ≡ 0
