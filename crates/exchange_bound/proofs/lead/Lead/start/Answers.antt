use Rattle.std.proofs.Common.{ℕ, ◌≡◌, ◌<◌, ◌+◌, ◌-◌, ◌∙◌, List, length, sym, ap, arith}
use Rattle.std.proofs.lemmas.List.{with_items_is}
use Rattle.search_model.specs.Problem.{Problem}
use Rattle.belief_update.specs.Belief.{BeliefState}
use Rattle.belief_update.specs.Onward.{OnwardState, IsOnward}
use Rattle.belief_update.specs.Trails.{IsAhead, row_at}
use Rattle.belief_update.proofs.OnwardRows.{belief_at}
use Rattle.belief_update.proofs.Looks.{length-looks_to}
use Rattle.exchange_bound.specs.Leads.{LeadState}
use Rattle.exchange_bound.proofs.Leads.{lead_starts}
use Rattle.exchange_bound.proofs.lead.Lead.start.Goals as goal

-- the belief that is read is the one ahead of the look after the prefix
ahead_is : (p : Problem) (q : List ℕ) (o : OnwardState) (b : BeliefState) (n : ℕ) → IsOnward p q o → length q < p.horizon → n ≡ length q → b ≡ row_at o.rows (n + 1 - 1) → IsAhead p q b
ahead_is p q o b n onward short size read = belief_at p q o (length q + 1) b onward (omega arith) (omega (arith, short)) (rw size at read)

pub subtract-requires-clause-width : goal.subtract-requires-clause-width
subtract-requires-clause-width c =
    let p = c.args.sc.now in
    let q = c.args.prefix.now in
    let onward = c.onward.ensures p q c.masses_behind.ensures.made (c.masses_behind.ensures.there q c.requires.along) in
    let ahead = ahead_is p q c.onward.result.now c.at-ahead.result.now c.len.result onward c.requires.short c.len.ensures.value c.at-ahead.ensures in
    ap length c.deref_mut-2.ensures.value ∙ ap (λ (l : LeadState). length l.masses) c.self.view_is ∙ c.requires.cells ∙ sym (ap length c.masses.ensures ∙ ahead.cells)

pub subtract-requires-clause-others : goal.subtract-requires-clause-others
subtract-requires-clause-others c =
    let p = c.args.sc.now in
    let q = c.args.prefix.now in
    let onward = c.onward.ensures p q c.masses_behind.ensures.made (c.masses_behind.ensures.there q c.requires.along) in
    let ahead = ahead_is p q c.onward.result.now c.at-ahead.result.now c.len.result onward c.requires.short c.len.ensures.value c.at-ahead.ensures in
    let size : length c.masses_behind.new.masses ≡ p.cells = c.masses_behind.auto.masses ∙ ap length c.deref_mut.ensures.value ∙ c.self.invariant ∙ ap (λ (l : LeadState). length l.masses) c.self.view_is ∙ c.requires.cells in
    let behind = c.deref.ensures.value ∙ with_items_is c.self.inside.next c.masses_behind.new.masses (c.masses_behind.auto.masses ∙ c.deref_mut.ensures.len) in
    ap length behind ∙ size ∙ sym (ap length c.masses.ensures ∙ ahead.cells)

pub returns-clause-lead : goal.returns-clause-lead
returns-clause-lead c =
    let p = c.args.sc.now in
    let q = c.args.prefix.now in
    let r = c.args.other.now in
    let new = c.subtract.new.lead in
    let others = c.masses_behind.new.masses in
    let onward = c.onward.ensures p q c.masses_behind.ensures.made (c.masses_behind.ensures.there q c.requires.along) in
    let ahead = ahead_is p q c.onward.result.now c.at-ahead.result.now c.len.result onward c.requires.short c.len.ensures.value c.at-ahead.ensures in
    let behind = c.deref.ensures.value ∙ with_items_is c.self.inside.next others (c.masses_behind.auto.masses ∙ c.deref_mut.ensures.len) in
    let size : length new ≡ p.cells = c.subtract.auto.lead ∙ ap length c.deref_mut-2.ensures.value ∙ ap (λ (l : LeadState). length l.masses) c.self.view_is ∙ c.requires.cells in
    let stored = with_items_is c.self.inside.masses new (c.subtract.auto.lead ∙ c.deref_mut-2.ensures.len) in
    let each = rw (c.masses.ensures, behind) at c.subtract.ensures.each in
    rw (stored, c.period-self-inside.ensures) (lead_starts p q r c.at-ahead.result.now others new c.requires.long ahead c.masses_behind.ensures.each size (λ x lt. each x (omega (arith, ahead.cells, lt))))

pub returns-clause-period : goal.returns-clause-period
returns-clause-period c =
    let p = c.args.sc.now in
    let q = c.args.prefix.now in
    let onward = c.onward.ensures p q c.masses_behind.ensures.made (c.masses_behind.ensures.there q c.requires.along) in
    let ahead = ahead_is p q c.onward.result.now c.at-ahead.result.now c.len.result onward c.requires.short c.len.ensures.value c.at-ahead.ensures in
    omega (arith, c.period-self-inside.ensures, ahead.periods, length-looks_to (length q + 1) q (omega arith))

pub returns-clause-along : goal.returns-clause-along
returns-clause-along c = c.masses_behind.ensures.there c.args.prefix.now c.requires.along
