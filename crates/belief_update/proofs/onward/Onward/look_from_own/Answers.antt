use Rattle.std.proofs.Common.{◌≡◌, ◌+◌, refl, ap, length, ◌∙◌, arith}
use Rattle.std.proofs.lemmas.List.{with_items_is}
use Rattle.belief_update.specs.Onward.{OnwardState}
use Rattle.search_model.proofs.LookRows.{own_cell}
use Rattle.belief_update.proofs.UnitSteps.{made_up}
use Rattle.belief_update.proofs.onward.Onward.look_from_own.Goals as goal

pub bounds-masses-from : goal.bounds-masses-from
bounds-masses-from c =
    let p = c.args.sc.now in
    let (q, size, on) = c.requires.before in
    let (part, rows) = c.requires.own in
    let here = own_cell p c.recall_sound.ensures (c.args.k + 1) c.args.a _ refl part rows in
    let taken = c.value_with-self-inside.ensures.taken q size on in
    omega (arith, here, taken.cells, ap length c.masses.ensures, c.from.ensures)

pub leave_units-requires-clause-size : goal.leave_units-requires-clause-size
leave_units-requires-clause-size c = ap length c.deref_mut.ensures.value ∙ ap (λ (o : OnwardState). length o.rows) c.self.view_is ∙ c.requires.made.size

pub leave_units-requires-clause-cells : goal.leave_units-requires-clause-cells
leave_units-requires-clause-cells c = rw (c.deref_mut.ensures.value ∙ ap (λ (o : OnwardState). o.rows) c.self.view_is) c.requires.made.cells

pub leave_units-requires-clause-taken : goal.leave_units-requires-clause-taken
leave_units-requires-clause-taken c q size on =
    let taken = c.value_with-self-inside.ensures.taken q size on in
    rw (c.masses.ensures, c.from.ensures) (made_up c.args.sc.now q c.args.a c.value_with-self-inside.new.taken taken (omega (arith, c.value_with-self-inside.ensures.period, size)) c.requires.own c.recall_sound.ensures c.requires.alike)

pub leave_units-requires-clause-flow : goal.leave_units-requires-clause-flow
leave_units-requires-clause-flow c = c.reach_with.ensures.flow c.args.a c.requires.flow

pub returns-then-reach_with-clause-onward : goal.returns-then-reach_with-clause-onward
returns-then-reach_with-clause-onward c q size on =
    let p = c.args.sc.now in
    let new = c.leave_units.new.rows in
    let many : length new ≡ p.horizon = c.leave_units.auto.rows ∙ ap length c.deref_mut.ensures.value ∙ ap (λ o. length o.rows) c.self.view_is ∙ c.requires.made.size in
    let kept = with_items_is c.self.inside.rows new (c.leave_units.auto.rows ∙ c.deref_mut.ensures.len) in
    rw kept (record { size = many; each = c.leave_units.ensures.rows q size on; value = c.value_with-self-inside.ensures.value q size on })

pub returns-then-reach_with-clause-flow : goal.returns-then-reach_with-clause-flow
returns-then-reach_with-clause-flow c = c.reach_with.ensures.flow c.args.a c.requires.flow

pub returns-else-reach_with-clause-onward : goal.returns-else-reach_with-clause-onward
returns-else-reach_with-clause-onward c q size on =
    let p = c.args.sc.now in
    let new = c.leave_rows.new.rows in
    let many : length new ≡ p.horizon = c.leave_rows.auto.rows ∙ ap length c.deref_mut-else-reach_with.ensures.value ∙ ap (λ o. length o.rows) c.self.view_is ∙ c.requires.made.size in
    let kept = with_items_is c.self.inside.rows new (c.leave_rows.auto.rows ∙ c.deref_mut-else-reach_with.ensures.len) in
    rw kept (record { size = many; each = c.leave_rows.ensures.rows q size on; value = c.value_with-self-inside.ensures.value q size on })

pub returns-else-reach_with-clause-flow : goal.returns-else-reach_with-clause-flow
returns-else-reach_with-clause-flow c = c.reach_with.ensures.flow c.args.a c.requires.flow
