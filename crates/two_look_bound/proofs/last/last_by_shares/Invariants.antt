use Rattle.std.proofs.Common.{◌≡◌, ◌+◌, ◌<◌, ◌≤◌, ◌⊎◌, ℕ, length, slice_index}
use Rattle.two_look_bound.specs.Pairs.{edge_and_rest}
use Rattle.two_look_bound.proofs.last.last_by_shares.Given as goal

-- the moves so far, and the numbers of other rows as they were
abbrev pub invariant-loop-b : goal.invariant-loop-b
invariant-loop-b l = record {
  each : (j : ℕ) → j < l.b-index → let b = slice_index l.moves j in slice_index l.earlier (l.here + b) ≡ edge_and_rest l.given.sc.now l.given.prefix.now l.s l.a b;
  kept : (i : ℕ) → (i < l.here) ⊎ (l.here + l.given.sc.now.positions ≤ i) → slice_index l.earlier i ≡ slice_index l.initial.earlier i;
  size : length l.earlier ≡ length l.initial.earlier;
}
