use Rattle.std.proofs.Common.{ℕ, ◌*◌, ◌-◌, ◌<◌, ◌≡◌, false, List, length, slice_index, sym, ap, ◌∙◌, arith}
use Rattle.std.proofs.lemmas.List.{with_items_is}
use Rattle.belief_update.specs.Masses.{looks_to}
use Rattle.belief_update.specs.Belief.{IsBelief}
use Rattle.belief_update.specs.Taken.{TakenState}
use Rattle.belief_update.specs.Flows.{held_in, IsUnits}
use Rattle.belief_update.proofs.BeliefSteps.{belief_fits}
use Rattle.belief_update.proofs.TakenSteps.{left_fits, left_part, left_is}
use Rattle.belief_update.proofs.belief.Belief.leave_units.Goals as goal

pub leave_units-requires-clause-cells : goal.leave_units-requires-clause-cells
leave_units-requires-clause-cells c =
    let p = c.args.sc.now in
    let (q, r, s, given) = c.requires.taken in
    let inside = c.before-2.inside in
    let units : IsUnits p q r (record { period = inside.period; looked = inside.looked; masses = inside.masses.items }) c.args.units c.args.entries.now s = rw c.before-2.view_is given in
    rw (c.deref.ensures.value, units.later.beside.belief.cells) units.cells

pub leave_units-requires-clause-fits : goal.leave_units-requires-clause-fits
leave_units-requires-clause-fits c x here =
    let p = c.args.sc.now in
    let (q, r, s, given) = c.requires.taken in
    let inside = c.before-2.inside in
    let units : IsUnits p q r (record { period = inside.period; looked = inside.looked; masses = inside.masses.items }) c.args.units c.args.entries.now s = rw c.before-2.view_is given in
    let cell : x < p.cells = omega (arith, here, ap length c.deref.ensures.value, units.later.beside.belief.cells) in
    rw (c.deref.ensures.value, c.denominator-whole.ensures.value, c.sweep.ensures.value) (left_fits p c.recall_sound.ensures q r _ _ units.later x cell)

pub leave_units-requires-clause-part : goal.leave_units-requires-clause-part
leave_units-requires-clause-part c x here =
    let p = c.args.sc.now in
    let (q, r, s, given) = c.requires.taken in
    let inside = c.before-2.inside in
    let units : IsUnits p q r (record { period = inside.period; looked = inside.looked; masses = inside.masses.items }) c.args.units c.args.entries.now s = rw c.before-2.view_is given in
    let cell : x < p.cells = omega (arith, here, ap length c.deref.ensures.value, units.later.beside.belief.cells) in
    rw (← units.units x cell, c.deref.ensures.value, c.denominator-whole.ensures.value, c.sweep.ensures.value) (left_part p c.recall_sound.ensures q r _ _ units.later x cell)

-- what is left is the belief with the look
made : (c : goal.After-self-3-1) (q r : List ℕ) (s : TakenState) → IsUnits c.args.sc.now q r c.args.before.now c.args.units c.args.entries.now s →
    IsBelief c.args.sc.now (looks_to s.period r) (record { period = c.before-2.inside.period; looked = false; masses = c.leave_units.new.left })
made c q r s given =
    let p = c.args.sc.now in
    let inside = c.before-2.inside in
    let old = inside.masses.items in
    let new = c.leave_units.new.left in
    let units : IsUnits p q r (record { period = inside.period; looked = inside.looked; masses = old }) c.args.units c.args.entries.now s = rw c.before-2.view_is given in
    let cells : length c.self.inside.masses.items ≡ p.cells = ap (λ b. length b.masses) c.self.view_is ∙ c.requires.cells in
    let each : (x : ℕ) → x < length old → slice_index new x ≡ slice_index old x * p.sweep.denominator - c.args.units * held_in c.args.entries.now x = rw (← c.deref.ensures.value, ← c.sweep.ensures.value, ← c.denominator-whole.ensures.value) c.leave_units.ensures.each in
    left_is p c.recall_sound.ensures q r _ _ units.later new (c.leave_units.auto.left ∙ ap length c.deref_mut.ensures.value ∙ cells) (λ x here. rw (units.units x here) (each x (omega (arith, units.later.beside.belief.cells, here))))

pub invariant_of-self : goal.invariant_of-self
invariant_of-self c =
    let (q, r, s, units) = c.requires.taken in
    let stored = with_items_is c.self.inside.masses c.leave_units.new.left (c.leave_units.auto.left ∙ c.deref_mut.ensures.len) in
    let after = made c q r s units in
    rw stored (record {
      spare = c.self.invariant.spare ∙ sym (c.leave_units.auto.left ∙ ap length c.deref_mut.ensures.value);
      fits = belief_fits c.args.sc.now c.recall_sound.ensures _ _ after;
    })

pub returns : goal.returns
returns c q r s units =
    let stored = with_items_is c.self.inside.masses c.leave_units.new.left (c.leave_units.auto.left ∙ c.deref_mut.ensures.len) in
    rw stored (made c q r s units)
