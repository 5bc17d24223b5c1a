use Rattle.std.proofs.Common.{◌≡◌, ◌-◌, ◌<◌, slice_index_or, take, refl, ap, ◌∙◌, arith}
use Rattle.std.proofs.lemmas.List.{take_all}
use Rattle.drift_chain.specs.DriftRows.{DriftRows, row_of}
use Rattle.sweep_table.specs.LookParts.{misses}
use Rattle.search_model.proofs.LookRows.{covered_cell}
use Rattle.search_model.proofs.Totals.{whole_weight-fits}
use Rattle.edge_bound.proofs.CellShares.{row_short}
use Rattle.two_look_bound.proofs.TwosTable.{row_cells}
use Rattle.two_look_bound.proofs.Weights.{taken_more, taken_more-within}
use Rattle.two_look_bound.proofs.taken.fill_taken.Goals as goal

pub loop-i-init : goal.loop-i-init
loop-i-init c = record {
  each = λ e there. c.clear.ensures.each e (omega (arith, there, c.requires.size)) ∙ omega arith;
  size = c.clear.ensures.size ∙ c.requires.size;
}

pub row-row-requires-clause-cell : goal.row-row-requires-clause-cell
row-row-requires-clause-cell c =
    let cell = covered_cell c.args.given.now.sc.now c.recall_sound.ensures (c.args.s - 1) c.args.a c.loop-i.i (misses 0 0) (rw c.requires.before at c.loop-i-test.true) in
    rw (c.drift.ensures.value, c.requires.before) (omega (arith, cell, c.recall_sound.ensures.drift_cells))

pub bounds-shares-i : goal.bounds-shares-i
bounds-shares-i c =
    let short = row_short c.args.given.now.sc.now c.recall_sound.ensures (c.args.s - 1) c.args.a in
    omega (arith, c.loop-i-test.true, rw (← c.requires.before) at short, c.requires.room)

pub spread-requires-clause-entries : goal.spread-requires-clause-entries
spread-requires-clause-entries c =
    let row : c.row-row.result.now ≡ row_of c.args.given.now.sc.now.drift (c.args.s - 1) (slice_index_or c.args.before.now c.loop-i.i (misses 0 0)).cell = c.row-row.ensures.value ∙ ap (λ (d : DriftRows). row_of d (c.args.s - 1) (slice_index_or c.args.before.now c.loop-i.i (misses 0 0)).cell) c.drift.ensures.value in
    let p = c.args.given.now.sc.now in
    let cell = covered_cell p c.recall_sound.ensures (c.args.s - 1) c.args.a c.loop-i.i (misses 0 0) (rw c.requires.before at c.loop-i-test.true) in
    rw c.loop-i.invariant.size (row_cells p c.recall_sound.ensures (c.args.s - 1) _ c.row-row.result.now (rw (← c.requires.before) at cell) row)

pub spread-requires-clause-fits : goal.spread-requires-clause-fits
spread-requires-clause-fits c e inside =
    let row : c.row-row.result.now ≡ row_of c.args.given.now.sc.now.drift (c.args.s - 1) (slice_index_or c.args.before.now c.loop-i.i (misses 0 0)).cell = c.row-row.ensures.value ∙ ap (λ (d : DriftRows). row_of d (c.args.s - 1) (slice_index_or c.args.before.now c.loop-i.i (misses 0 0)).cell) c.drift.ensures.value in
    let p = c.args.given.now.sc.now in
    let q = c.args.given.now.prefix.now in
    let there : e < p.cells = omega (arith, inside, c.loop-i.invariant.size) in
    let share = rw (← c.requires.before) at (c.requires.shares c.loop-i.i (rw c.requires.before at c.loop-i-test.true)) in
    let most = taken_more-within p q c.args.s c.args.a c.loop-i.i c.args.before.now c.row-row.result.now _ c.requires.before c.loop-i-test.true share row e _ (c.loop-i.invariant.each e there) c.recall_sound.ensures c.requires.middle there in
    omega (arith, most, whole_weight-fits p c.recall_sound.ensures)

pub loop-i-preserved : goal.loop-i-preserved
loop-i-preserved c =
    let row : c.row-row.result.now ≡ row_of c.args.given.now.sc.now.drift (c.args.s - 1) (slice_index_or c.args.before.now c.loop-i.i (misses 0 0)).cell = c.row-row.ensures.value ∙ ap (λ (d : DriftRows). row_of d (c.args.s - 1) (slice_index_or c.args.before.now c.loop-i.i (misses 0 0)).cell) c.drift.ensures.value in
    let p = c.args.given.now.sc.now in
    let q = c.args.given.now.prefix.now in
    let share = rw (← c.requires.before) at (c.requires.shares c.loop-i.i (rw c.requires.before at c.loop-i-test.true)) in
    record {
      each = λ e there. c.spread.ensures.each e (omega (arith, there, c.loop-i.invariant.size)) ∙ taken_more p q c.args.s c.args.a c.loop-i.i c.args.before.now c.row-row.result.now _ c.requires.before c.loop-i-test.true share row e _ (c.loop-i.invariant.each e there);
      size = c.spread.auto.next ∙ c.loop-i.invariant.size;
    }

pub returns-clause-each : goal.returns-clause-each
returns-clause-each c e there =
    let all : take c.loop-i.i c.args.before.now ≡ c.args.before.now = take_all c.loop-i.i c.args.before.now c.loop-i-test.false in
    rw (c.loop-i.invariant.each e there, all, c.requires.before) refl
