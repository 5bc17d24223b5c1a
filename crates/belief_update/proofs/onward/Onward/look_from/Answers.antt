use Rattle.std.proofs.Common.{◌≡◌, ap, length, ◌∙◌}
use Rattle.std.proofs.lemmas.List.{with_items_is}
use Rattle.belief_update.specs.Onward.{OnwardState}
use Rattle.belief_update.proofs.onward.Onward.look_from.Goals as goal

pub leave_rows-requires-clause-size : goal.leave_rows-requires-clause-size
leave_rows-requires-clause-size c = ap length c.deref_mut.ensures.value ∙ ap (λ (o : OnwardState). length o.rows) c.self.view_is ∙ c.requires.made.size

pub leave_rows-requires-clause-cells : goal.leave_rows-requires-clause-cells
leave_rows-requires-clause-cells c = rw (c.deref_mut.ensures.value ∙ ap (λ (o : OnwardState). o.rows) c.self.view_is) c.requires.made.cells

pub returns-clause-made : goal.returns-clause-made
returns-clause-made c =
    let new = c.leave_rows.new.rows in
    let many : length new ≡ c.args.sc.now.horizon = c.leave_rows.auto.rows ∙ ap length c.deref_mut.ensures.value ∙ ap (λ o. length o.rows) c.self.view_is ∙ c.requires.made.size in
    let kept = with_items_is c.self.inside.rows new (c.leave_rows.auto.rows ∙ c.deref_mut.ensures.len) in
    rw kept (record { size = many; cells = c.leave_rows.ensures.cells })

pub returns-clause-onward : goal.returns-clause-onward
returns-clause-onward c q size on =
    let p = c.args.sc.now in
    let new = c.leave_rows.new.rows in
    let many : length new ≡ p.horizon = c.leave_rows.auto.rows ∙ ap length c.deref_mut.ensures.value ∙ ap (λ o. length o.rows) c.self.view_is ∙ c.requires.made.size in
    let kept = with_items_is c.self.inside.rows new (c.leave_rows.auto.rows ∙ c.deref_mut.ensures.len) in
    rw kept (record { size = many; each = c.leave_rows.ensures.rows q size on; value = c.value_with-self-inside.ensures.value q size on })
