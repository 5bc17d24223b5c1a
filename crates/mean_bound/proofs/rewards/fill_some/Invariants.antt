use Rattle.std.proofs.Common.{◌≡◌, ◌<◌, ◌+◌, ◌*◌, ℕ, slice_index}
use Rattle.belief_update.specs.Found.{found_of}
use Rattle.mean_bound.proofs.rewards.fill_some.Given as goal

-- the positions so far, and the rows before this one as they were
abbrev pub invariant-loop-a : goal.invariant-loop-a
invariant-loop-a l = record {
  each : (j : ℕ) → j < l.a-index → let a = slice_index l.some j in slice_index l.rewards (l.row + a) ≡ found_of l.sc l.t a (slice_index l.masses) * l.parts;
  earlier : (i : ℕ) → i < l.row → slice_index l.rewards i ≡ slice_index l.initial.rewards i;
}
