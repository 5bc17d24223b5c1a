use Rattle.std.proofs.Common.{arith}
use Rattle.sweep_table.specs.LookParts.{misses}
use Rattle.belief_update.proofs.LookSteps.{factor-at_place, factor-off_place}
use Rattle.belief_update.proofs.steps.factor_at.Goals as goal
use Rattle.belief_update.proofs.steps.factor_at.Goals.{else-i-row-via-then-i-row+else-row-i, else-i-row-via-else-i-row}

pub returns-then-row-i : goal.returns-then-row-i
returns-then-row-i c = factor-at_place c.args.row.now c.args.c c.args.i c.requires (misses 0 0) c.args.whole c.if-i-row.true c.if-row-i.true

pub returns-else-i-row : goal.returns-else-i-row
returns-else-i-row c =
    factor-off_place c.args.row.now c.args.c c.args.i c.requires (misses 0 0)
    (λ inside. elim c.else-i-row.branch [ else-i-row-via-then-i-row+else-row-i w ↦ w.if-row-i.false | else-i-row-via-else-i-row w ↦ absurd (omega (arith, inside, w.if-i-row.false)) ])
    c.args.whole
