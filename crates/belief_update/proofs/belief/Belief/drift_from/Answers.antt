use Rattle.std.proofs.Common.{ℕ, ◌+◌, ◌*◌, ◌<◌, ◌≡◌, false, List, [], ◌∷◌, ◌++◌, Option, None, length, slice_index, sym, ap, ◌∙◌, sum_by, arith}
use Rattle.std.specs.List.{range_with_len}
use Rattle.std.proofs.lemmas.List.{with_items_is}
use Rattle.drift_chain.specs.DriftRows.{part_of}
use Rattle.belief_update.specs.Belief.{BeliefState, IsBelief}
use Rattle.belief_update.proofs.BeliefSteps.{drift_fits, drift_is, belief_fits}
use Rattle.belief_update.proofs.belief.Belief.drift_from.Goals as goal

pub move_on-requires-clause-cells : goal.move_on-requires-clause-cells
move_on-requires-clause-cells c =
    let before = ap length c.deref.ensures.value ∙ ap (λ (b : BeliefState). length b.masses) c.before-2.view_is ∙ c.requires.belief.1.cells in
    ap length c.deref_mut.ensures.value ∙ ap (λ (b : BeliefState). length b.masses) c.self.view_is ∙ c.requires.cells ∙ sym before

pub move_on-requires-clause-rows : goal.move_on-requires-clause-rows
move_on-requires-clause-rows c =
    rw c.drift.ensures.value (ap length c.deref.ensures.value ∙ ap (λ (b : BeliefState). length b.masses) c.before-2.view_is ∙ c.requires.belief.1.cells ∙ sym c.drift.ensures.sound.drift_cells)

pub move_on-requires-clause-last : goal.move_on-requires-clause-last
move_on-requires-clause-last c = omega (arith, ap (λ (b : BeliefState). b.period) c.before-2.view_is, c.requires.period, c.drift.ensures.sound.horizon.1)

pub move_on-requires-clause-fits : goal.move_on-requires-clause-fits
move_on-requires-clause-fits c =
    let p = c.args.sc.now in
    let inside = c.before-2.inside in
    let looks = c.requires.belief.0 in
    let before : IsBelief p looks (record { period = inside.period; looked = inside.looked; masses = inside.masses.items }) = rw c.before-2.view_is c.requires.belief.1 in
    let more : inside.period < p.horizon = rw (ap (λ b. b.period) c.before-2.view_is) c.requires.period in
    rw (c.deref.ensures.value, c.drift.ensures.value) (drift_fits p c.drift.ensures.sound looks _ before more)

-- what was moved on is the belief in the next period
made : (c : goal.After-self-3-1) (looks : List (Option ℕ)) → IsBelief c.args.sc.now looks c.args.before.now →
    IsBelief c.args.sc.now (looks ++ None ∷ []) (record { period = c.before-2.inside.period + 1; looked = false; masses = c.move_on.new.next })
made c looks given =
    let p = c.args.sc.now in
    let inside = c.before-2.inside in
    let old = inside.masses.items in
    let new = c.move_on.new.next in
    let before : IsBelief p looks (record { period = inside.period; looked = inside.looked; masses = old }) = rw c.before-2.view_is given in
    let more : inside.period < p.horizon = rw (ap (λ b. b.period) c.before-2.view_is) c.requires.period in
    let each : (d : ℕ) → d < length old → slice_index new d ≡ sum_by (λ x. slice_index old x * part_of p.drift inside.period x d) (range_with_len 0 (length old)) = rw (← c.deref.ensures.value, ← c.drift.ensures.value) c.move_on.ensures.each in
    let cells : length c.self.inside.masses.items ≡ p.cells = ap (λ b. length b.masses) c.self.view_is ∙ c.requires.cells in
    drift_is p c.drift.ensures.sound looks _ new before more (c.move_on.auto.next ∙ ap length c.deref_mut.ensures.value ∙ cells ∙ sym before.cells) each

pub invariant_of-self : goal.invariant_of-self
invariant_of-self c =
    let stored = with_items_is c.self.inside.masses c.move_on.new.next (c.move_on.auto.next ∙ c.deref_mut.ensures.len) in
    let after = made c c.requires.belief.0 c.requires.belief.1 in
    rw stored (record {
      spare = c.self.invariant.spare ∙ sym (c.move_on.auto.next ∙ ap length c.deref_mut.ensures.value);
      fits = belief_fits c.args.sc.now c.drift.ensures.sound _ _ after;
    })

pub returns-clause-belief : goal.returns-clause-belief
returns-clause-belief c looks given =
    let stored = with_items_is c.self.inside.masses c.move_on.new.next (c.move_on.auto.next ∙ c.deref_mut.ensures.len) in
    rw stored (made c looks given)

pub overflow_add-self : goal.overflow_add-self
overflow_add-self c = omega (arith, ap (λ (b : BeliefState). b.period) c.before-2.view_is, c.requires.period, c.drift.ensures.sound.horizon.1)
