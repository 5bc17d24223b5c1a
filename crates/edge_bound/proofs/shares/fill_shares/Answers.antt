use Rattle.std.proofs.Common.{◌≡◌, ◌*◌, ◌-◌, ◌<◌, ℕ, length, slice_index_or, refl, ap, ◌∙◌, arith}
use Rattle.std.proofs.Math.ListN.{length-set}
use Rattle.std.proofs.Math.Nat.{mul-le-mul_right}
use Rattle.std.proofs.lemmas.List.Sums.{sum_by_more, sum_by_more_le}
use Rattle.sweep_table.specs.LookParts.{misses}
use Rattle.search_model.proofs.LookRows.{covered_cell, covered_part}
use Rattle.search_model.proofs.Totals.{whole_weight-fits}
use Rattle.belief_update.specs.Masses.{mass_of, looks_to}
use Rattle.belief_update.specs.Found.{found_in}
use Rattle.edge_bound.proofs.CellShares.{row_short, share-within, share_parts-within, filled_more}
use Rattle.edge_bound.proofs.shares.fill_shares.Goals as goal

pub mass_at-mass-requires-clause-cell : goal.mass_at-mass-requires-clause-cell
mass_at-mass-requires-clause-cell c =
    rw c.requires.row (covered_cell c.args.sc.now c.sweep.ensures.sound (c.args.t - 1) c.args.a c.loop-i.i (misses 0 0) (rw c.requires.row at c.loop-i-test.true))

pub overflow_sub-whole : goal.overflow_sub-whole
overflow_sub-whole c =
    rw (c.requires.row, c.denominator-whole.ensures.value, c.sweep.ensures.value)
    (covered_part c.args.sc.now c.sweep.ensures.sound (c.args.t - 1) c.args.a c.loop-i.i (misses 0 0) (rw c.requires.row at c.loop-i-test.true))

-- what is found in the cell
share_is : (c : goal.After-from) → let p = c.args.sc.now in
    c.mass_at-mass.result * c.from.result ≡ found_in p (mass_of p (looks_to (c.args.t - 1) c.args.prefix.now)) (slice_index_or c.args.row.now c.loop-i.i (misses 0 0))
share_is c = rw (c.mass_at-mass.ensures, c.from.ensures, c.denominator-whole.ensures.value, c.sweep.ensures.value) refl

pub overflow_mul-found : goal.overflow_mul-found
overflow_mul-found c =
    let p = c.args.sc.now in
    let sound = c.sweep.ensures.sound in
    let most = share-within p sound (c.args.t - 1) c.args.a c.args.prefix.now c.loop-i.i (omega (arith, c.requires.period.later)) (omega (arith, c.requires.period.last)) (rw c.requires.row at c.loop-i-test.true) in
    omega (arith, share_is c, rw (← c.requires.row) at most, whole_weight-fits p sound)

pub overflow_mul-share : goal.overflow_mul-share
overflow_mul-share c =
    let p = c.args.sc.now in
    let sound = c.sweep.ensures.sound in
    let most = share_parts-within p c.args.prefix.now c.args.t c.args.a c.args.parts c.loop-i.i c.requires.fits (rw c.requires.row at c.loop-i-test.true) in
    rw (share_is c) (omega (arith, rw (← c.requires.row) at most, whole_weight-fits p sound))

pub bounds-shares-i : goal.bounds-shares-i
bounds-shares-i c =
    let short = row_short c.args.sc.now c.sweep.ensures.sound (c.args.t - 1) c.args.a in
    omega (arith, c.loop-i-test.true, rw (← c.requires.row) at short, c.requires.room, c.loop-i.invariant.room)

pub loop-i-preserved : goal.loop-i-preserved
loop-i-preserved c =
    let p = c.args.sc.now in
    let short = row_short p c.sweep.ensures.sound (c.args.t - 1) c.args.a in
    let inside : c.loop-i.i < length c.loop-i.shares = omega (arith, c.loop-i-test.true, rw (← c.requires.row) at short, c.requires.room, c.loop-i.invariant.room) in
    let f : ℕ → ℕ = λ k. found_in p (mass_of p (looks_to (c.args.t - 1) c.args.prefix.now)) (slice_index_or c.args.row.now k (misses 0 0)) * c.args.parts in
    let more = sum_by_more (found_in p (mass_of p (looks_to (c.args.t - 1) c.args.prefix.now))) c.args.row.now c.loop-i.i (misses 0 0) c.loop-i-test.true in
    record {
      sum = rw (share_is c) (omega (arith, c.loop-i.invariant.sum, ap (λ (s : ℕ). s * c.args.parts) more));
      each = filled_more f c.loop-i.shares c.loop-i.i _ inside (rw (share_is c) refl) c.loop-i.invariant.each;
      room = length-set _ _ _ ∙ c.loop-i.invariant.room;
    }

pub overflow_add-sum : goal.overflow_add-sum
overflow_add-sum c =
    let p = c.args.sc.now in
    let q = c.args.prefix.now in
    let sound = c.sweep.ensures.sound in
    let more = sum_by_more_le (found_in p (mass_of p (looks_to (c.args.t - 1) q))) c.args.row.now c.loop-i.i (misses 0 0) c.loop-i-test.true in
    rw (share_is c)
    (omega (arith, c.loop-i.invariant.sum, mul-le-mul_right c.args.parts more, rw (← c.requires.row) at c.requires.fits, whole_weight-fits p sound))
