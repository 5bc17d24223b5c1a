use Rattle.std.proofs.Common.{ℕ, ◌≡◌, ◌<◌, ◌+◌, ◌-◌, ◌++◌, ◌∷◌, [], List, ap, length, subst, ◌∙◌, arith, length-append}
use Rattle.search_model.specs.Problem.{Problem}
use Rattle.belief_update.specs.Masses.{looks_to}
use Rattle.belief_update.specs.Belief.{BeliefState, IsBelief}
use Rattle.belief_update.specs.Onward.{OnwardState, IsOnward}
use Rattle.belief_update.specs.Trails.{row_at, IsAhead}
use Rattle.belief_update.proofs.Looks.{length-looks_to}
use Rattle.belief_update.proofs.OnwardRows.{belief_at}
use Rattle.belief_update.proofs.onward.value_with.Goals as goal

-- the belief ahead of the look
ahead : (p : Problem) (q : List ℕ) (k : ℕ) (o : OnwardState) (b : BeliefState) → length q ≡ k → k + 1 < p.horizon → IsOnward p q o → b ≡ row_at o.rows (k + 1 - 1) → IsAhead p q b
ahead p q k o b size short on same =
    let next : k + 1 ≡ length q + 1 = omega (arith, size) in
    subst (λ (t : ℕ). IsBelief p (looks_to t q) b) next (belief_at p q o (k + 1) b on (omega (arith, size)) (omega (arith, short)) same)

-- it is in the look's period
period_of : (p : Problem) (q : List ℕ) (k : ℕ) (b : BeliefState) → length q ≡ k → IsAhead p q b → b.period ≡ k + 1
period_of p q k b size ahead = omega (arith, length-looks_to (length q + 1) q (omega arith), ahead.periods, size)

pub start-requires-clause-ahead : goal.start-requires-clause-ahead
start-requires-clause-ahead c =
    let (q, size, on) = c.requires.before in
    (q, ahead c.args.sc.now q c.args.k c.args.before.now c.at.result.now size c.requires.short on c.at.ensures)

pub value-requires-2 : goal.value-requires-2
value-requires-2 c =
    let p = c.args.sc.now in
    let (q, size, on) = c.requires.before in
    let taken = c.start.ensures.taken q (ahead p q c.args.k c.args.before.now c.at.result.now size c.requires.short on c.at.ensures) in
    record { taken = (q, q ++ c.args.a ∷ [], taken, c.value.ensures p q on, length-append q (c.args.a ∷ []) ∙ ap (λ (n : ℕ). n + 1) size) }

pub returns-clause-value : goal.returns-clause-value
returns-clause-value c q size on =
    let p = c.args.sc.now in
    let taken = c.start.ensures.taken q (ahead p q c.args.k c.args.before.now c.at.result.now size c.requires.short on c.at.ensures) in
    c.value-2.ensures q (q ++ c.args.a ∷ []) taken (c.value.ensures p q on) (length-append q (c.args.a ∷ []) ∙ ap (λ (n : ℕ). n + 1) size)

pub returns-clause-taken : goal.returns-clause-taken
returns-clause-taken c q size on = c.start.ensures.taken q (ahead c.args.sc.now q c.args.k c.args.before.now c.at.result.now size c.requires.short on c.at.ensures)

pub returns-clause-period : goal.returns-clause-period
returns-clause-period c =
    let p = c.args.sc.now in
    let (q, size, on) = c.requires.before in
    c.start.ensures.period ∙ period_of p q c.args.k c.at.result.now size (ahead p q c.args.k c.args.before.now c.at.result.now size c.requires.short on c.at.ensures)
