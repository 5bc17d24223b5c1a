use Rattle.std.proofs.Common.{rules, ◌≡◌, replicate}
use Rattle.period_rows.specs.declared.part.CellPart.{CellPart}
use Rattle.scenario_text.proofs.Places.{Placed-none, Placed-more}
use Rattle.scenario_text.proofs.assembling.parts_of.Goals as goal

pub loop-entry-init : goal.loop-entry-init
loop-entry-init c =
    let zeros : c.in_ok-parts.parts.items ≡ replicate c.args.cells 0 = search rules in
    rw zeros (Placed-none c.args.cells c.args.entries.now)

pub loop-entry-preserved : goal.loop-entry-preserved
loop-entry-preserved c =
    let nothing : CellPart = record { cell = 0; part = 0 } in
    Placed-more c.args.cells c.requires.0 c.args.entries.now c.requires.1 c.loop-entry.entry-index nothing c.loop-entry-test.true c.loop-entry.parts.items c.loop-entry.invariant
