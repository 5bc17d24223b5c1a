use Rattle.std.proofs.Common.{◌≡◌, ◌*◌, ◌-◌, ◌<◌, slice_index_or, take, ap, ◌∙◌, arith}
use Rattle.std.proofs.lemmas.List.{take_all}
use Rattle.std.proofs.lemmas.List.Sums.{sum_by_more, sum_by_more_le}
use Rattle.period_rows.specs.declared.part.CellPart.{CellPart}
use Rattle.drift_chain.specs.DriftRows.{DriftRows, row_of, part_of}
use Rattle.sweep_table.specs.LookParts.{misses}
use Rattle.two_look_bound.proofs.TwosTable.{row_cells, entry_cell, gone_by_entries, gone-within}
use Rattle.two_look_bound.proofs.twos.go_twice.Goals as goal

pub loop-i-init : goal.loop-i-init
loop-i-init c = record {
  each = λ d there. c.clear.ensures.each d (omega (arith, there, c.requires.room)) ∙ omega arith;
  size = c.clear.ensures.size ∙ c.requires.room;
}

pub row-next-requires-clause-cell : goal.row-next-requires-clause-cell
row-next-requires-clause-cell c =
    let row : c.row-row.result.now ≡ row_of c.args.sc.now.drift (c.args.s - 1) c.args.c = c.row-row.ensures.value ∙ ap (λ (d : DriftRows). row_of d (c.args.s - 1) c.args.c) c.drift.ensures.value in
    let cell = entry_cell c.args.sc.now c.recall_sound.ensures (c.args.s - 1) c.args.c c.loop-i.i c.row-row.result.now c.requires.from row c.loop-i-test.true in
    rw c.drift-in-loop-i.ensures.value (omega (arith, cell, c.recall_sound.ensures.drift_cells))

pub spread-requires-clause-entries : goal.spread-requires-clause-entries
spread-requires-clause-entries c =
    let row : c.row-row.result.now ≡ row_of c.args.sc.now.drift (c.args.s - 1) c.args.c = c.row-row.ensures.value ∙ ap (λ (d : DriftRows). row_of d (c.args.s - 1) c.args.c) c.drift.ensures.value in
    let cell = entry_cell c.args.sc.now c.recall_sound.ensures (c.args.s - 1) c.args.c c.loop-i.i c.row-row.result.now c.requires.from row c.loop-i-test.true in
    let next : c.row-next.result.now ≡ row_of c.args.sc.now.drift c.args.s (slice_index_or c.row-row.result.now c.loop-i.i (misses 0 0)).cell = c.row-next.ensures.value ∙ ap (λ (d : DriftRows). row_of d c.args.s (slice_index_or c.row-row.result.now c.loop-i.i (misses 0 0)).cell) c.drift-in-loop-i.ensures.value in
    rw c.loop-i.invariant.size (row_cells c.args.sc.now c.recall_sound.ensures c.args.s _ c.row-next.result.now cell next)

pub spread-requires-clause-fits : goal.spread-requires-clause-fits
spread-requires-clause-fits c d inside =
    let row : c.row-row.result.now ≡ row_of c.args.sc.now.drift (c.args.s - 1) c.args.c = c.row-row.ensures.value ∙ ap (λ (d : DriftRows). row_of d (c.args.s - 1) c.args.c) c.drift.ensures.value in
    let next : c.row-next.result.now ≡ row_of c.args.sc.now.drift c.args.s (slice_index_or c.row-row.result.now c.loop-i.i (misses 0 0)).cell = c.row-next.ensures.value ∙ ap (λ (d : DriftRows). row_of d c.args.s (slice_index_or c.row-row.result.now c.loop-i.i (misses 0 0)).cell) c.drift-in-loop-i.ensures.value in
    let p = c.args.sc.now in
    let there : d < p.cells = omega (arith, inside, c.loop-i.invariant.size) in
    let more = sum_by_more_le (λ (e : CellPart). e.part * part_of p.drift c.args.s e.cell d) c.row-row.result.now c.loop-i.i (misses 0 0) c.loop-i-test.true in
    let all = gone_by_entries p c.recall_sound.ensures c.args.s c.args.c d c.row-row.result.now c.requires.from row in
    rw (c.loop-i.invariant.each d there, c.from.ensures, next) (omega (arith, more, all, gone-within p c.recall_sound.ensures c.args.s c.args.c d c.requires.from there))

pub loop-i-preserved : goal.loop-i-preserved
loop-i-preserved c =
    let next : c.row-next.result.now ≡ row_of c.args.sc.now.drift c.args.s (slice_index_or c.row-row.result.now c.loop-i.i (misses 0 0)).cell = c.row-next.ensures.value ∙ ap (λ (d : DriftRows). row_of d c.args.s (slice_index_or c.row-row.result.now c.loop-i.i (misses 0 0)).cell) c.drift-in-loop-i.ensures.value in
    let p = c.args.sc.now in
    record {
      each = λ d there.
          let more = sum_by_more (λ (e : CellPart). e.part * part_of p.drift c.args.s e.cell d) c.row-row.result.now c.loop-i.i (misses 0 0) c.loop-i-test.true in
          c.spread.ensures.each d (omega (arith, there, c.loop-i.invariant.size)) ∙ rw (c.loop-i.invariant.each d there, c.from.ensures, next) (omega (arith, more));
      size = c.spread.auto.next ∙ c.loop-i.invariant.size;
    }

pub returns-clause-gone : goal.returns-clause-gone
returns-clause-gone c d there =
    let row : c.row-row.result.now ≡ row_of c.args.sc.now.drift (c.args.s - 1) c.args.c = c.row-row.ensures.value ∙ ap (λ (d : DriftRows). row_of d (c.args.s - 1) c.args.c) c.drift.ensures.value in
    let all : take c.loop-i.i c.row-row.result.now ≡ c.row-row.result.now = take_all c.loop-i.i c.row-row.result.now c.loop-i-test.false in
    rw (c.loop-i.invariant.each d there, all) (gone_by_entries c.args.sc.now c.recall_sound.ensures c.args.s c.args.c d c.row-row.result.now c.requires.from row)
