use Rattle.std.proofs.Common.{◌≡◌, ◌*◌, ◌<◌, ℕ, length, slice_index, sum_by, take}
use Rattle.belief_update.specs.Found.{found_in}
use Rattle.edge_bound.specs.After.{going_on}
use Rattle.two_look_bound.specs.Taken.{parts_after_two}
use Rattle.two_look_bound.proofs.taken.fill_taken.Given as goal

-- what is taken by way of the entries so far
abbrev pub invariant-loop-i : goal.invariant-loop-i
invariant-loop-i l = record {
  each : (e : ℕ) → e < l.given.sc.now.cells → slice_index l.taken e ≡ sum_by (found_in l.given.sc.now (going_on l.given.sc.now l.given.prefix.now l.s e)) (take l.i l.before) * parts_after_two l.given.sc.now l.given.prefix.now l.s;
  size : length l.taken ≡ l.given.sc.now.cells;
}
