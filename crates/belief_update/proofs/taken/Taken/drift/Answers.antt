use Rattle.std.proofs.Common.{ℕ, ◌*◌, ◌<◌, ◌≡◌, length, slice_index, sym, ap, ◌∙◌, sum_by, arith}
use Rattle.std.specs.List.{range_with_len}
use Rattle.std.proofs.lemmas.List.{with_items_is}
use Rattle.drift_chain.specs.DriftRows.{part_of}
use Rattle.belief_update.specs.Taken.{TakenState, IsTaken}
use Rattle.belief_update.proofs.TakenSteps.{drift_taken, drift_taken_fits}
use Rattle.belief_update.proofs.taken.Taken.drift.Goals as goal

pub move_on-requires-clause-cells : goal.move_on-requires-clause-cells
move_on-requires-clause-cells c = ap length c.deref_mut.ensures.value ∙ c.self.invariant ∙ sym (ap length c.deref.ensures.value)

pub move_on-requires-clause-rows : goal.move_on-requires-clause-rows
move_on-requires-clause-rows c =
    let (_, _, taken) = c.requires.taken in
    rw c.drift.ensures.value (ap length c.deref.ensures.value ∙ ap (λ (s : TakenState). length s.masses) c.self.view_is ∙ taken.cells ∙ sym c.drift.ensures.sound.drift_cells)

pub move_on-requires-clause-last : goal.move_on-requires-clause-last
move_on-requires-clause-last c = omega (arith, ap (λ (s : TakenState). s.period) c.self.view_is, c.requires.more, c.drift.ensures.sound.horizon.1)

pub move_on-requires-clause-fits : goal.move_on-requires-clause-fits
move_on-requires-clause-fits c =
    let p = c.args.sc.now in
    let (q, r, taken) = c.requires.taken in
    let before : IsTaken p q r (record { period = c.self.inside.period; scale = c.self.inside.scale; masses = c.self.inside.masses.items }) = rw c.self.view_is taken in
    let more : c.self.inside.period < p.horizon = rw (ap (λ s. s.period) c.self.view_is) c.requires.more in
    rw (c.deref.ensures.value, c.drift.ensures.value) (drift_taken_fits p c.drift.ensures.sound q r _ before more)

pub returns-clause-taken : goal.returns-clause-taken
returns-clause-taken c q r given =
    let p = c.args.sc.now in
    let old = c.self.inside.masses.items in
    let new = c.move_on.new.next in
    let before : IsTaken p q r (record { period = c.self.inside.period; scale = c.self.inside.scale; masses = old }) = rw c.self.view_is given in
    let more : c.self.inside.period < p.horizon = rw (ap (λ s. s.period) c.self.view_is) c.requires.more in
    let each : (d : ℕ) → d < length old → slice_index new d ≡ sum_by (λ x. slice_index old x * part_of p.drift c.self.inside.period x d) (range_with_len 0 (length old)) = rw (← c.deref.ensures.value, ← c.drift.ensures.value) c.move_on.ensures.each in
    let stored = with_items_is c.self.inside.next c.move_on.new.next (c.move_on.auto.next ∙ c.deref_mut.ensures.len) in
    rw (c.swap.ensures.x_after, stored) (drift_taken p c.drift.ensures.sound q r _ before new more (c.move_on.auto.next ∙ ap length c.deref_mut.ensures.value ∙ c.self.invariant) each)

pub overflow_add-self : goal.overflow_add-self
overflow_add-self c = omega (arith, ap (λ (s : TakenState). s.period) c.self.view_is, c.requires.more, c.drift.ensures.sound.horizon.1)

pub invariant_of-self : goal.invariant_of-self
invariant_of-self c =
    let stored = with_items_is c.self.inside.next c.move_on.new.next (c.move_on.auto.next ∙ c.deref_mut.ensures.len) in
    rw (c.swap.ensures.x_after, c.swap.ensures.y_after, stored) (sym (c.move_on.auto.next ∙ ap length c.deref_mut.ensures.value ∙ c.self.invariant))
