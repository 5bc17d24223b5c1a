use Rattle.std.proofs.Common.{◌≡◌, ◌*◌, ◌<◌, ℕ, length, slice_index, slice_index_or, sum_by, take}
use Rattle.sweep_table.specs.LookParts.{misses}
use Rattle.belief_update.specs.Found.{found_in}
use Rattle.two_look_bound.specs.Taken.{taken_to, parts_after_two}
use Rattle.two_look_bound.proofs.taken.fill_less.Given as goal

-- the entries so far
abbrev pub invariant-loop-i : goal.invariant-loop-i
invariant-loop-i l = record {
  sum : l.sum ≡ sum_by (found_in l.given.sc.now (taken_to l.given.sc.now l.given.prefix.now l.s l.a)) (take l.i l.row) * parts_after_two l.given.sc.now l.given.prefix.now l.s;
  each : (k : ℕ) → k < l.i → slice_index l.less k ≡ found_in l.given.sc.now (taken_to l.given.sc.now l.given.prefix.now l.s l.a) (slice_index_or l.row k (misses 0 0)) * parts_after_two l.given.sc.now l.given.prefix.now l.s;
  size : length l.less ≡ length l.initial.less;
}
