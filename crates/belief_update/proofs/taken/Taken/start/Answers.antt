use Rattle.std.proofs.Common.{◌≡◌, ap, length, sym, ◌∙◌}
use Rattle.std.proofs.lemmas.List.{with_items_is}
use Rattle.belief_update.proofs.TakenSteps.{found_is}
use Rattle.belief_update.proofs.taken.Taken.start.Goals as goal

pub returns-clause-taken : goal.returns-clause-taken
returns-clause-taken c q ahead =
    let p = c.args.sc.now in
    let new = c.find.new.found in
    let size : length new ≡ p.cells = c.find.auto.found ∙ ap length c.deref_mut.ensures.value ∙ ap (λ s. length s.masses) c.self.view_is ∙ c.requires.cells in
    let stored = with_items_is c.self.inside.masses new (c.find.auto.found ∙ c.deref_mut.ensures.len) in
    rw (stored, c.period-self-inside.ensures, c.from-self-inside.ensures, c.denominator.ensures.value, c.sweep.ensures.value) (found_is p c.recall_sound.ensures q c.args.ahead.now c.args.a new ahead size c.find.ensures.each)

pub invariant_of-self : goal.invariant_of-self
invariant_of-self c =
    let stored = with_items_is c.self.inside.masses c.find.new.found (c.find.auto.found ∙ c.deref_mut.ensures.len) in
    rw stored (c.self.invariant ∙ sym (c.find.auto.found ∙ ap length c.deref_mut.ensures.value))
