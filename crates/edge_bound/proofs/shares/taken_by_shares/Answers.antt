use Rattle.std.proofs.Common.{ℕ, ◌≡◌, ◌+◌, ◌*◌, ◌-◌, ◌≤◌, slice_index, slice_index_or, ap, arith}
use Rattle.std.proofs.Math.Nat.{mul-le-mul_right}
use Rattle.std.proofs.lemmas.List.Sums.{sum_by_more, sum_by_more_le}
use Rattle.sweep_table.specs.LookParts.{misses}
use Rattle.search_model.specs.Tracks.{whole_weight}
use Rattle.search_model.proofs.LookRows.{covered_cell}
use Rattle.search_model.proofs.Totals.{whole_weight-fits}
use Rattle.belief_update.specs.Found.{found_in}
use Rattle.edge_bound.specs.After.{through, parts_after}
use Rattle.edge_bound.proofs.Fitting.{taken-within}
use Rattle.edge_bound.proofs.CellShares.{row_short, share_taken}
use Rattle.edge_bound.proofs.shares.taken_by_shares.Goals as goal

pub unit-unit-requires-clause-inside : goal.unit-unit-requires-clause-inside
unit-unit-requires-clause-inside c =
    let cell = covered_cell c.args.sc.now c.recall_sound.ensures (c.args.t - 1) c.args.a c.loop-i.i (misses 0 0) (rw c.requires.row at c.loop-i-test.true) in
    c.requires.units.inside c.args.t _ c.args.b (omega (arith, c.requires.period.later)) c.requires.period.last (rw c.requires.row cell) c.requires.to

pub bounds-shares-i : goal.bounds-shares-i
bounds-shares-i c =
    let short = row_short c.args.sc.now c.recall_sound.ensures (c.args.t - 1) c.args.a in
    omega (arith, c.loop-i-test.true, rw (← c.requires.row) at short, c.requires.room)

-- what is taken in the cell
taken_is : (c : goal.After-from) → let p = c.args.sc.now in
    slice_index c.args.shares.now c.loop-i.i * c.from.result ≡ found_in p (through p c.args.prefix.now c.args.t c.args.b) (slice_index_or c.args.row.now c.loop-i.i (misses 0 0)) * parts_after p c.args.prefix.now c.args.t
taken_is c =
    let p = c.args.sc.now in
    let q = c.args.prefix.now in
    let entry = slice_index_or c.args.row.now c.loop-i.i (misses 0 0) in
    let inside = rw c.requires.row at c.loop-i-test.true in
    let cell = covered_cell p c.recall_sound.ensures (c.args.t - 1) c.args.a c.loop-i.i (misses 0 0) inside in
    let unit = c.requires.units.each c.args.t entry.cell c.args.b (omega (arith, c.requires.period.later)) c.requires.period.last (rw c.requires.row cell) c.requires.to in
    let share = rw (← c.requires.row) at (c.requires.shares c.loop-i.i inside) in
    rw (share, c.from.ensures, c.unit-unit.ensures, unit) (share_taken p q c.args.t c.args.b entry)

-- what is taken so far and in one cell more is within the whole weight
within : (c : goal.After-from) → c.loop-i.sum + slice_index c.args.shares.now c.loop-i.i * c.from.result ≤ whole_weight c.args.sc.now
within c =
    let p = c.args.sc.now in
    let q = c.args.prefix.now in
    let most = taken-within p c.recall_sound.ensures q c.args.t c.args.a c.args.b c.requires.period.later c.requires.period.last in
    let more = sum_by_more_le (found_in p (through p q c.args.t c.args.b)) c.args.row.now c.loop-i.i (misses 0 0) c.loop-i-test.true in
    omega (arith, taken_is c, c.loop-i.invariant, mul-le-mul_right (parts_after p q c.args.t) more, rw (← c.requires.row) at most)

pub overflow_mul-sum : goal.overflow_mul-sum
overflow_mul-sum c = omega (arith, within c, whole_weight-fits c.args.sc.now c.recall_sound.ensures)

pub overflow_add-sum : goal.overflow_add-sum
overflow_add-sum c = omega (arith, within c, whole_weight-fits c.args.sc.now c.recall_sound.ensures)

pub loop-i-preserved : goal.loop-i-preserved
loop-i-preserved c =
    let p = c.args.sc.now in
    let q = c.args.prefix.now in
    let more = sum_by_more (found_in p (through p q c.args.t c.args.b)) c.args.row.now c.loop-i.i (misses 0 0) c.loop-i-test.true in
    omega (arith, taken_is c, c.loop-i.invariant, ap (λ (s : ℕ). s * parts_after p q c.args.t) more)
