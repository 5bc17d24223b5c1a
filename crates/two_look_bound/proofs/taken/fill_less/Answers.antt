use Rattle.std.proofs.Common.{ℕ, ◌≡◌, ◌*◌, ◌<◌, length, slice_index, slice_index_or, ap, ◌∙◌, arith}
use Rattle.std.proofs.Math.ListN.{length-set}
use Rattle.std.proofs.Math.Nat.{mul-le-mul_right}
use Rattle.std.proofs.lemmas.List.Sums.{sum_by_more, sum_by_more_le}
use Rattle.sweep_table.specs.LookParts.{misses}
use Rattle.search_model.proofs.LookRows.{covered_cell, covered_part}
use Rattle.search_model.proofs.Totals.{whole_weight-fits}
use Rattle.belief_update.specs.Found.{found_in}
use Rattle.edge_bound.proofs.CellShares.{row_short, filled_more}
use Rattle.two_look_bound.specs.Taken.{taken_to, parts_after_two}
use Rattle.two_look_bound.proofs.Fitting.{less-within}
use Rattle.two_look_bound.proofs.taken.fill_less.Goals as goal

pub bounds-taken-row : goal.bounds-taken-row
bounds-taken-row c =
    let cell = covered_cell c.args.given.now.sc.now c.sweep.ensures.sound c.args.s c.args.b c.loop-i.i (misses 0 0) (rw c.requires.row at c.loop-i-test.true) in
    rw c.requires.row (omega (arith, cell, c.requires.room))

pub overflow_sub-whole : goal.overflow_sub-whole
overflow_sub-whole c =
    rw (c.requires.row, c.denominator-whole.ensures.value, c.sweep.ensures.value)
    (covered_part c.args.given.now.sc.now c.sweep.ensures.sound c.args.s c.args.b c.loop-i.i (misses 0 0) (rw c.requires.row at c.loop-i-test.true))

-- what would be found in the cell
less_is : (c : goal.After-from) → let p = c.args.given.now.sc.now in
    slice_index c.args.taken.now (slice_index_or c.args.row.now c.loop-i.i (misses 0 0)).cell * c.from.result ≡ found_in p (taken_to p c.args.given.now.prefix.now c.args.s c.args.a) (slice_index_or c.args.row.now c.loop-i.i (misses 0 0)) * parts_after_two p c.args.given.now.prefix.now c.args.s
less_is c =
    let cell = rw (← c.requires.row) at (covered_cell c.args.given.now.sc.now c.sweep.ensures.sound c.args.s c.args.b c.loop-i.i (misses 0 0) (rw c.requires.row at c.loop-i-test.true)) in
    rw (c.requires.taken _ cell, c.from.ensures, c.denominator-whole.ensures.value, c.sweep.ensures.value) (omega arith)

pub overflow_mul-found : goal.overflow_mul-found
overflow_mul-found c =
    let p = c.args.given.now.sc.now in
    let q = c.args.given.now.prefix.now in
    let sound = c.sweep.ensures.sound in
    let more = sum_by_more_le (found_in p (taken_to p q c.args.s c.args.a)) c.args.row.now c.loop-i.i (misses 0 0) c.loop-i-test.true in
    let most = less-within p sound q c.args.s c.requires.middle c.args.a c.args.b in
    omega (arith, less_is c, mul-le-mul_right (parts_after_two p q c.args.s) more, rw (← c.requires.row) at most, whole_weight-fits p sound)

pub bounds-less-i : goal.bounds-less-i
bounds-less-i c =
    let short = row_short c.args.given.now.sc.now c.sweep.ensures.sound c.args.s c.args.b in
    omega (arith, c.loop-i-test.true, rw (← c.requires.row) at short, c.requires.size, c.loop-i.invariant.size)

pub loop-i-preserved : goal.loop-i-preserved
loop-i-preserved c =
    let p = c.args.given.now.sc.now in
    let short = row_short p c.sweep.ensures.sound c.args.s c.args.b in
    let inside : c.loop-i.i < length c.loop-i.less = omega (arith, c.loop-i-test.true, rw (← c.requires.row) at short, c.requires.size, c.loop-i.invariant.size) in
    let f : ℕ → ℕ = λ k. found_in p (taken_to p c.args.given.now.prefix.now c.args.s c.args.a) (slice_index_or c.args.row.now k (misses 0 0)) * parts_after_two p c.args.given.now.prefix.now c.args.s in
    let more = sum_by_more (found_in p (taken_to p c.args.given.now.prefix.now c.args.s c.args.a)) c.args.row.now c.loop-i.i (misses 0 0) c.loop-i-test.true in
    record {
      sum = omega (arith, less_is c, c.loop-i.invariant.sum, ap (λ (n : ℕ). n * parts_after_two p c.args.given.now.prefix.now c.args.s) more);
      each = filled_more f c.loop-i.less c.loop-i.i _ inside (less_is c) c.loop-i.invariant.each;
      size = length-set _ _ _ ∙ c.loop-i.invariant.size;
    }

pub overflow_add-sum : goal.overflow_add-sum
overflow_add-sum c =
    let p = c.args.given.now.sc.now in
    let q = c.args.given.now.prefix.now in
    let sound = c.sweep.ensures.sound in
    let more = sum_by_more_le (found_in p (taken_to p q c.args.s c.args.a)) c.args.row.now c.loop-i.i (misses 0 0) c.loop-i-test.true in
    let most = less-within p sound q c.args.s c.requires.middle c.args.a c.args.b in
    omega (arith, less_is c, c.loop-i.invariant.sum, mul-le-mul_right (parts_after_two p q c.args.s) more, rw (← c.requires.row) at most, whole_weight-fits p sound)
