use Rattle.std.proofs.Common.{refl}
use Rattle.belief_update.proofs.FlowSteps.{noted_more}
use Rattle.belief_update.proofs.flows.note.Goals as goal

pub loop-c-preserved : goal.loop-c-preserved
loop-c-preserved c = noted_more c.args.masses.now c.loop-c.c c.args.entries.now.items c.loop-c.entries.items c.note_cell.new.entries.items c.loop-c.invariant (c.if-not-note_cell.ensures.noted refl)
