use Rattle.std.proofs.Common.{◌≡◌, ◌+◌, ◌≤◌, length, ap, sym, subst, ◌∙◌}
use Rattle.std.proofs.lemmas.List.{with_items_is}
use Rattle.belief_update.specs.Trails.{IsPast}
use Rattle.belief_update.specs.Onward.{OnwardState}
use Rattle.belief_update.proofs.TrailSteps.{more_behind, ready_ahead}
use Rattle.belief_update.proofs.onward.Onward.go_on.Goals as goal

pub advance-requires-clause-period : goal.advance-requires-clause-period
advance-requires-clause-period c =
    let p = c.args.sc.now in
    let q = c.args.prefix.now in
    let Past : OnwardState → Type 0 = λ o. IsPast p q o.belief in
    let Near : OnwardState → Type 0 = λ o. o.belief.period ≤ length q + 1 in
    more_behind p q c.self.inside.belief (subst Past (sym c.self.view_is) c.requires.after) (subst Near (sym c.self.view_is) c.requires.near) c.requires.short

pub fill_rows-requires-clause-belief : goal.fill_rows-requires-clause-belief
fill_rows-requires-clause-belief c =
    let p = c.args.sc.now in
    let q = c.args.prefix.now in
    let Past : OnwardState → Type 0 = λ o. IsPast p q o.belief in
    let Near : OnwardState → Type 0 = λ o. o.belief.period ≤ length q + 1 in
    ready_ahead p q c.self.inside.belief c.advance.new.self (subst Past (sym c.self.view_is) c.requires.after) (subst Near (sym c.self.view_is) c.requires.near) c.advance.ensures.belief

pub returns-clause-made : goal.returns-clause-made
returns-clause-made c =
    let many : length c.fill_rows.new.rows ≡ c.args.sc.now.horizon = c.fill_rows.auto.rows ∙ ap length c.deref_mut.ensures.value ∙ ap (λ o. length o.rows) c.self.view_is ∙ c.requires.made.size in
    let kept = with_items_is c.self.inside.rows c.fill_rows.new.rows (c.fill_rows.auto.rows ∙ c.deref_mut.ensures.len) in
    rw kept (record { belief = c.fill_rows.ensures.belief; size = many; cells = c.fill_rows.ensures.cells })

pub returns-clause-onward : goal.returns-clause-onward
returns-clause-onward c =
    let many : length c.fill_rows.new.rows ≡ c.args.sc.now.horizon = c.fill_rows.auto.rows ∙ ap length c.deref_mut.ensures.value ∙ ap (λ o. length o.rows) c.self.view_is ∙ c.requires.made.size in
    let kept = with_items_is c.self.inside.rows c.fill_rows.new.rows (c.fill_rows.auto.rows ∙ c.deref_mut.ensures.len) in
    rw kept (record { size = many; each = c.fill_rows.ensures.rows; value = c.value_by-self-inside.ensures })
