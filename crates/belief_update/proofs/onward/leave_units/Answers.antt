use Rattle.std.proofs.Common.{◌≡◌, ◌<◌, ◌≤◌, ◌+◌, ◌-◌, ◌++◌, ◌∷◌, [], ℕ, List, length, arith, length-append}
use Rattle.search_model.specs.Problem.{Problem}
use Rattle.belief_update.specs.Masses.{looks_to}
use Rattle.belief_update.specs.Belief.{BeliefState, IsBelief}
use Rattle.belief_update.specs.Taken.{TakenState}
use Rattle.belief_update.specs.Onward.{IsOnward, OnwardState}
use Rattle.belief_update.specs.Trails.{row_at}
use Rattle.belief_update.specs.Flows.{IsUnits, IsMadeUp, HoldUnits, units_on}
use Rattle.belief_update.specs.declared.flows.UnitPart.{UnitPart}
use Rattle.belief_update.proofs.OnwardRows.{row_more, belief_at, cells_set, cells_at}
use Rattle.belief_update.proofs.UnitSteps.{units_there}
use Rattle.belief_update.proofs.onward.leave_units.Goals as goal

-- what the look took by period t + 1
abbrev took : Problem → List ℕ → ℕ → ℕ → ℕ → TakenState
took p q a units n = record { period = length q + 1 + n; scale = p.sweep.denominator; masses = units_on p a units n }

-- in that period its units are where the flow has them
there : (p : Problem) (q : List ℕ) (a units k t : ℕ) (o : OnwardState) (b : BeliefState) (entries : List UnitPart) → IsOnward p q o → length q ≡ k → k + 1 ≤ t → t < p.horizon → b ≡ row_at o.rows (t + 1 - 1) →
    IsMadeUp p q a units → HoldUnits p a units (t - k) entries → IsUnits p q (q ++ a ∷ []) b units entries (took p q a units (t - k))
there p q a units k t o b entries on size later short same made hold =
    let period : length q + 1 + (t - k) ≡ t + 1 = omega (arith, size, later) in
    units_there p q a units (t - k) b entries made (omega (arith, later)) (omega (arith, period, short)) (rw period (belief_at p q o (t + 1) b on (omega (arith, size, later)) (omega (arith, short)) same)) hold

pub loop-t-init : goal.loop-t-init
loop-t-init c = record {
  cells = c.requires.cells;
  rows = λ q size on t later last. absurd (omega (arith, size, later, last, length-append q (c.args.a ∷ [])));
}

pub leave_units-requires-clause-cells : goal.leave_units-requires-clause-cells
leave_units-requires-clause-cells c =
    cells_at c.args.sc.now (c.args.k + 1) c.loop-t.t c.loop-t.rows c.index-rows-t.result c.loop-t.invariant.cells c.loop-t.auto.t (omega (arith, c.loop-t-test.true, c.loop-t.auto.rows))

pub row-requires-clause-made : goal.row-requires-clause-made
row-requires-clause-made c some =
    omega (arith, c.requires.made some, c.loop-t-test.true, c.loop-t.auto.rows, c.requires.size)

pub leave_units-requires-clause-taken : goal.leave_units-requires-clause-taken
leave_units-requires-clause-taken c =
    let p = c.args.sc.now in
    let a = c.args.a in
    let t = c.loop-t.t in
    let (q, size, on) = c.requires.before in
    let short : t < p.horizon = omega (arith, c.loop-t-test.true, c.loop-t.auto.rows, c.requires.size) in
    (q, q ++ a ∷ [], took p q a c.args.units (t - c.args.k), there p q a c.args.units c.args.k t c.args.before.now c.at.result.now c.row.result.now on size c.loop-t.auto.t short c.at.ensures (c.requires.taken q size on) (c.row.ensures p a c.requires.flow))

pub loop-t-preserved : goal.loop-t-preserved
loop-t-preserved c =
    let p = c.args.sc.now in
    let a = c.args.a in
    let t = c.loop-t.t in
    let k = c.args.k in
    let short : t < p.horizon = omega (arith, c.loop-t-test.true, c.loop-t.auto.rows, c.requires.size) in
    let here : t < length c.loop-t.rows = omega (arith, c.loop-t-test.true, c.loop-t.auto.rows) in
    let left : (q : List ℕ) → length q ≡ k → IsOnward p q c.args.before.now → IsBelief p (looks_to (t + 1) (q ++ a ∷ [])) c.leave_units.new.self = λ q size on.
    let units = there p q a c.args.units k t c.args.before.now c.at.result.now c.row.result.now on size c.loop-t.auto.t short c.at.ensures (c.requires.taken q size on) (c.row.ensures p a c.requires.flow) in
    let period : length q + 1 + (t - k) ≡ t + 1 = omega (arith, size, c.loop-t.auto.t) in
    rw period at (c.leave_units.ensures q (q ++ a ∷ []) (took p q a c.args.units (t - k)) units) in
    let (some, some_size, some_on) = c.requires.before in
    record {
      cells = cells_set p (c.args.k + 1) t c.loop-t.rows c.leave_units.new.self here (left some some_size some_on).cells c.loop-t.invariant.cells;
      rows = λ q size on. row_more p (q ++ a ∷ []) t c.loop-t.rows c.leave_units.new.self here (c.loop-t.invariant.rows q size on) (left q size on);
    }

pub returns-clause-rows : goal.returns-clause-rows
returns-clause-rows c q size on u later last = c.loop-t.invariant.rows q size on u later (omega (arith, last, c.loop-t-test.false, c.loop-t.auto.rows, c.requires.size))
