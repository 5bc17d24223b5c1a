use Rattle.std.proofs.Common.{◌≡◌, ◌<◌, ◌≤◌, ◌+◌, length, arith, length-set}
use Rattle.std.proofs.lemmas.List.Elements.{All-set}
use Rattle.belief_update.specs.Masses.{looks_to}
use Rattle.belief_update.specs.Belief.{BeliefState, IsBelief}
use Rattle.belief_update.proofs.Looks.{length-looks_to, looks_to-drift}
use Rattle.belief_update.proofs.OnwardRows.{row_more}
use Rattle.belief_update.proofs.onward.fill_rows.Goals as goal

pub drift-requires-clause-period : goal.drift-requires-clause-period
drift-requires-clause-period c =
    let q = c.args.prefix.now in
    let t = c.loop-t.t in
    let after : length q ≤ t = omega (arith, c.len.ensures.value, c.loop-t.auto.t) in
    omega (arith, length-looks_to t q after, c.loop-t.invariant.belief.periods, c.loop-t-test.true, c.loop-t.auto.rows, length-set c.args.rows.now c.len.result c.copy_from.new.self, c.requires.size)

-- one period more
pub loop-t-preserved : goal.loop-t-preserved
loop-t-preserved c =
    let p = c.args.sc.now in
    let q = c.args.prefix.now in
    let t = c.loop-t.t in
    let after : length q ≤ t = omega (arith, c.len.ensures.value, c.loop-t.auto.t) in
    let here : t < length c.loop-t.rows = omega (arith, c.loop-t-test.true, c.loop-t.auto.rows) in
    let belief : IsBelief p (looks_to (t + 1) q) c.drift.new.self = rw (looks_to-drift t q after) (c.drift.ensures.belief _ c.loop-t.invariant.belief) in
    let copied : IsBelief p (looks_to (t + 1) q) c.copy_from-in-loop-t.new.self = rw c.copy_from-in-loop-t.ensures belief in
    let HasCells : BeliefState → Type 0 = λ b. length b.masses ≡ p.cells in
    record {
      belief = belief;
      cells = All-set HasCells c.loop-t.rows t c.copy_from-in-loop-t.new.self copied.cells c.loop-t.invariant.cells;
      each = row_more p q t c.loop-t.rows c.copy_from-in-loop-t.new.self here c.loop-t.invariant.each copied;
    }
