use Rattle.std.proofs.Common.{◌<◌, length, slice_index, slice_index_or, arith}
use Rattle.std.proofs.Math.ListN.{length-set}
use Rattle.period_rows.specs.declared.part.CellPart.{CellPart}
use Rattle.belief_update.proofs.RowSteps.{part_in_none, entry-fits, entry-adds}
use Rattle.belief_update.proofs.steps.spread.Goals as goal

abbrev no_entry : CellPart
no_entry = record { cell = 0; part = 0 }

pub loop-entry-init : goal.loop-entry-init
loop-entry-init c = λ d lt. rw (part_in_none d) (omega arith)

pub overflow_mul-next : goal.overflow_mul-next
overflow_mul-next c =
    let i = c.loop-entry.entry-index in
    let cell = (slice_index_or c.args.row.now i no_entry).cell in
    let within : cell < length c.args.next.now = c.requires.entries i no_entry c.loop-entry-test.true in
    let fits = entry-fits c.args.next.now c.args.row.now c.args.mass i (length c.args.next.now) (slice_index c.loop-entry.next cell) no_entry c.loop-entry-test.true c.requires.entries c.requires.fits
    (c.loop-entry.invariant cell (omega (arith, within, c.loop-entry.auto.next))) in
    rw c.from.ensures (omega (arith, fits))

pub overflow_add-next : goal.overflow_add-next
overflow_add-next c =
    let i = c.loop-entry.entry-index in
    let cell = (slice_index_or c.args.row.now i no_entry).cell in
    let within : cell < length c.args.next.now = c.requires.entries i no_entry c.loop-entry-test.true in
    let fits = entry-fits c.args.next.now c.args.row.now c.args.mass i (length c.args.next.now) (slice_index c.loop-entry.next cell) no_entry c.loop-entry-test.true c.requires.entries c.requires.fits
    (c.loop-entry.invariant cell (omega (arith, within, c.loop-entry.auto.next))) in
    rw c.from.ensures (omega (arith, fits))

pub loop-entry-preserved : goal.loop-entry-preserved
loop-entry-preserved c = λ d lt.
    rw c.from.ensures (entry-adds c.args.next.now c.loop-entry.next c.args.row.now c.args.mass c.loop-entry.entry-index no_entry c.loop-entry-test.true c.loop-entry.invariant d
    (rw length-set at lt))
