use Rattle.std.proofs.Common.{◌≡◌, ◌<◌, ℕ, length, slice_index}
use Rattle.two_look_bound.specs.Taken.{skip_of}
use Rattle.two_look_bound.proofs.own.fill_skips_own.Given as goal

-- the positions so far
abbrev pub invariant-loop-c : goal.invariant-loop-c
invariant-loop-c l = record {
  each : (j : ℕ) → j < l.c-index → let c = slice_index l.two j in slice_index l.skips c ≡ skip_of l.given.sc.now l.given.prefix.now l.s l.a c;
  size : length l.skips ≡ length l.initial.skips;
}
