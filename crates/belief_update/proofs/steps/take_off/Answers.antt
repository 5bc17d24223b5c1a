use Rattle.std.proofs.Common.{◌<◌, length, slice_index, slice_index_or, arith}
use Rattle.std.proofs.Math.ListN.{length-set}
use Rattle.belief_update.specs.declared.flows.UnitPart.{UnitPart}
use Rattle.belief_update.proofs.FlowSteps.{held_in-none}
use Rattle.belief_update.proofs.TakeOff.{entry-part, entry-leaves}
use Rattle.belief_update.proofs.steps.take_off.Goals as goal

abbrev no_entry : UnitPart
no_entry = record { cell = 0; part = 0 }

pub loop-entry-init : goal.loop-entry-init
loop-entry-init c = λ d lt. rw (held_in-none d) (omega arith)

pub overflow_mul-masses : goal.overflow_mul-masses
overflow_mul-masses c =
    let i = c.loop-entry.entry-index in
    let cell = (slice_index_or c.args.entries.now i no_entry).cell in
    let within : cell < length c.args.masses.now = c.requires.cells i no_entry c.loop-entry-test.true in
    let part = entry-part c.args.masses.now c.args.entries.now c.args.units i (length c.args.masses.now) (slice_index c.loop-entry.masses cell) no_entry c.loop-entry-test.true c.requires.cells c.requires.part
    (c.loop-entry.invariant cell (omega (arith, within, c.loop-entry.auto.masses))) in
    omega (arith, part, c.loop-entry.invariant cell (omega (arith, within, c.loop-entry.auto.masses)), c.requires.fits cell within)

pub overflow_sub-masses : goal.overflow_sub-masses
overflow_sub-masses c =
    let i = c.loop-entry.entry-index in
    let cell = (slice_index_or c.args.entries.now i no_entry).cell in
    let within : cell < length c.args.masses.now = c.requires.cells i no_entry c.loop-entry-test.true in
    let part = entry-part c.args.masses.now c.args.entries.now c.args.units i (length c.args.masses.now) (slice_index c.loop-entry.masses cell) no_entry c.loop-entry-test.true c.requires.cells c.requires.part
    (c.loop-entry.invariant cell (omega (arith, within, c.loop-entry.auto.masses))) in
    rw c.from.ensures part

pub loop-entry-preserved : goal.loop-entry-preserved
loop-entry-preserved c = λ d lt.
    rw c.from.ensures (entry-leaves c.args.masses.now c.loop-entry.masses c.args.entries.now c.args.units c.loop-entry.entry-index no_entry c.loop-entry-test.true c.loop-entry.invariant d
    (rw length-set at lt))
