use Rattle.belief_update.proofs.Entries.{entry_cell, entry_part}
use Rattle.belief_update.proofs.finds.found_by_row.Goals as goal

pub bounds-masses-from : goal.bounds-masses-from
bounds-masses-from c =
    rw (c.from.ensures, c.requires.cells)
    (entry_cell c.args.sc.now c.sweep-sweep.ensures.sound _ _ c.args.a _ _ c.sweep-sweep.ensures.value c.look-look.ensures.value c.parts-entry-items.ensures c.loop-entry.entry-index (record { cell = 0; part = 0 }) c.loop-entry-test.true)

pub overflow_sub-whole : goal.overflow_sub-whole
overflow_sub-whole c =
    rw (c.denominator-whole.ensures.value, c.sweep-sweep.ensures.value)
    (entry_part c.args.sc.now c.sweep-sweep.ensures.sound _ _ c.args.a _ _ c.sweep-sweep.ensures.value c.look-look.ensures.value c.parts-entry-items.ensures c.loop-entry.entry-index (record { cell = 0; part = 0 }) c.loop-entry-test.true)
