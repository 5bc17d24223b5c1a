use Rattle.std.proofs.Common.{◌≡◌, ◌<◌, ◌+◌, ◌*◌, ℕ, slice_index}
use Rattle.two_look_bound.specs.Taken.{two_of}
use Rattle.two_look_bound.proofs.twos.fill_block.Given as goal

-- the cells so far, and the numbers before this block as they were
abbrev pub invariant-loop-c : goal.invariant-loop-c
invariant-loop-c l = record {
  each : (c b : ℕ) → c < l.c → b < l.sc.positions → slice_index l.numbers (l.here + (c * l.sc.positions + b)) ≡ two_of l.sc l.s c b;
  earlier : (i : ℕ) → i < l.here → slice_index l.numbers i ≡ slice_index l.initial.numbers i;
}
