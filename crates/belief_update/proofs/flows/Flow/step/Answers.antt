use Rattle.std.proofs.Common.{◌≡◌, ◌+◌, ◌*◌, ◌<◌, ◌++◌, ◌∷◌, [], ℕ, length, slice_index, refl, sym, ap, ◌∙◌, arith, sum_by}
use Rattle.std.specs.List.{range_with_len}
use Rattle.std.proofs.lemmas.List.{with_items_is}
use Rattle.drift_chain.specs.DriftRows.{part_of}
use Rattle.belief_update.specs.Flows.{FlowState, HoldMasses, IsFlow}
use Rattle.belief_update.proofs.FlowSteps.{next_fits, flow_kept, flow_stepped}
use Rattle.belief_update.proofs.flows.Flow.step.Goals as goal

pub move_on-requires-clause-cells : goal.move_on-requires-clause-cells
move_on-requires-clause-cells c = ap length c.deref_mut.ensures.value ∙ c.self.invariant ∙ sym (ap length c.deref.ensures.value)

pub move_on-requires-clause-rows : goal.move_on-requires-clause-rows
move_on-requires-clause-rows c =
    let (a, given) = c.requires.flow in
    rw c.drift.ensures.value (ap length c.deref.ensures.value ∙ ap (λ (f : FlowState). length f.unit) c.self.view_is ∙ given.cells ∙ sym c.drift.ensures.sound.drift_cells)

pub move_on-requires-clause-fits : goal.move_on-requires-clause-fits
move_on-requires-clause-fits c =
    let p = c.args.sc.now in
    let f : FlowState = record { unit = c.self.inside.unit.items; entries = c.self.inside.entries.items; spans = c.self.inside.spans.items } in
    let (a, given) = c.requires.flow in
    let flow : IsFlow p a f = rw c.self.view_is given in
    let more : length f.spans + 1 < p.horizon = rw (ap (λ (s : FlowState). s.spans) c.self.view_is) c.requires.more in
    rw (c.deref.ensures.value, c.drift.ensures.value) (next_fits p a c.drift.ensures.sound f flow more)

pub note-requires : goal.note-requires
note-requires c =
    let (a, given) = c.requires.flow in
    let stored = with_items_is c.self.inside.next c.move_on.new.next (c.move_on.auto.next ∙ c.deref_mut.ensures.len) in
    let size = ap length c.deref-2.ensures.value ∙ ap length stored ∙ c.move_on.auto.next ∙ ap length c.deref_mut.ensures.value ∙ c.self.invariant ∙ ap (λ (f : FlowState). length f.unit) c.self.view_is ∙ given.cells in
    omega (arith, size, c.drift.ensures.sound.cells.1)

pub returns-then-not-note-clause-flow : goal.returns-then-not-note-clause-flow
returns-then-not-note-clause-flow c a given =
    let p = c.args.sc.now in
    let f : FlowState = record { unit = c.self.inside.unit.items; entries = c.self.inside.entries.items; spans = c.self.inside.spans.items } in
    let flow : IsFlow p a f = rw c.self.view_is given in
    let (rest, is, _) = c.note.ensures in
    flow_kept p a f flow c.note.new.entries.items rest is

pub returns-in-Ok-clause-flow : goal.returns-in-Ok-clause-flow
returns-in-Ok-clause-flow c a given =
    let p = c.args.sc.now in
    let f : FlowState = record { unit = c.self.inside.unit.items; entries = c.self.inside.entries.items; spans = c.self.inside.spans.items } in
    let flow : IsFlow p a f = rw c.self.view_is given in
    let new = c.move_on.new.next in
    let stored = with_items_is c.self.inside.next new (c.move_on.auto.next ∙ c.deref_mut.ensures.len) in
    let size : length new ≡ length f.unit = c.move_on.auto.next ∙ ap length c.deref_mut.ensures.value ∙ c.self.invariant in
    let each : (d : ℕ) → d < length f.unit → slice_index new d ≡ sum_by (λ x. slice_index f.unit x * part_of p.drift 1 x d) (range_with_len 0 (length f.unit)) = rw (← c.deref.ensures.value, ← c.drift.ensures.value) c.move_on.ensures.each in
    let (rest, is, held) = c.if-not-note.ensures in
    let from : c.len-from.result ≡ length f.entries = omega (arith, c.len-from.ensures, c.self.inside.entries.ok.0) in
    let to : c.len-to.result ≡ length c.note.new.entries.items = omega (arith, c.len-to.ensures, c.note.new.entries.ok.0) in
    let spans : c.push.new.self.items ≡ f.spans ++ (record { from = length f.entries; to = length c.note.new.entries.items }) ∷ [] = rw (← from, ← to) c.in-Ok.ensures.items in
    let masses : HoldMasses new rest = rw (c.deref-2.ensures.value, stored) at held refl in
    rw (c.swap.ensures.x_after, stored) (flow_stepped p a f flow rest new c.note.new.entries.items c.push.new.self.items size each is spans masses)

pub returns-in-Err-clause-flow : goal.returns-in-Err-clause-flow
returns-in-Err-clause-flow c a given =
    let p = c.args.sc.now in
    let f : FlowState = record { unit = c.self.inside.unit.items; entries = c.self.inside.entries.items; spans = c.self.inside.spans.items } in
    let flow : IsFlow p a f = rw c.self.view_is given in
    let (rest, is, _) = c.note.ensures in
    rw c.in-Err.ensures.items (flow_kept p a f flow c.note.new.entries.items rest is)

pub invariant_of-self : goal.invariant_of-self
invariant_of-self c =
    let stored = with_items_is c.self.inside.next c.move_on.new.next (c.move_on.auto.next ∙ c.deref_mut.ensures.len) in
    rw stored (c.move_on.auto.next ∙ ap length c.deref_mut.ensures.value ∙ c.self.invariant)

pub invariant_of-self-in-Ok : goal.invariant_of-self-in-Ok
invariant_of-self-in-Ok c =
    let stored = with_items_is c.self.inside.next c.move_on.new.next (c.move_on.auto.next ∙ c.deref_mut.ensures.len) in
    rw (c.swap.ensures.x_after, c.swap.ensures.y_after, stored) (sym (c.move_on.auto.next ∙ ap length c.deref_mut.ensures.value ∙ c.self.invariant))

pub invariant_of-self-in-Err : goal.invariant_of-self-in-Err
invariant_of-self-in-Err c =
    let stored = with_items_is c.self.inside.next c.move_on.new.next (c.move_on.auto.next ∙ c.deref_mut.ensures.len) in
    rw stored (c.move_on.auto.next ∙ ap length c.deref_mut.ensures.value ∙ c.self.invariant)
