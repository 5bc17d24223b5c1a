-- The value of a prefix, by a belief after it.
use Rattle.std.proofs.Common.{ℕ, ◌+◌, ◌*◌, ◌-◌, ◌^◌, ◌≤◌, ◌≡◌, List, Some, map, length, max, sym, subst, ◌∙◌, arith, sum}
use Rattle.std.proofs.Math.Nat.{le-max_right}
use Rattle.std.proofs.lemmas.List.{length-map}
use Rattle.search_model.specs.Problem.{Problem, IsProblem}
use Rattle.search_model.specs.Tracks.{missed_weight}
use Rattle.belief_update.specs.Masses.{looks_to}
use Rattle.belief_update.specs.Belief.{BeliefState, IsBelief}
use Rattle.belief_update.specs.Trails.{IsPast, IsAfter}
use Rattle.belief_update.proofs.Looks.{length-looks_to, looks_to-whole}
use Rattle.belief_update.proofs.Missed.{missed_by_masses_hold}

-- the masses after a prefix, times the parts to come, are what the prefix misses
pub undetected_is : (p : Problem) → IsProblem p → (q : List ℕ) (b : BeliefState) → IsPast p q b →
    sum b.masses * (p.drift.denominator ^ (p.horizon - b.period) * p.sweep.denominator ^ (p.horizon - length q)) ≡ missed_weight p q
undetected_is p sound q b past =
    let law = missed_by_masses_hold p sound q b.period past.belief.first past.late past.belief.last in
    rw past.belief.masses (omega (arith, law))

-- a belief after a prefix, in a period that is known
past_in : (p : Problem) (q : List ℕ) (t : ℕ) (b : BeliefState) → length q ≤ t → IsBelief p (looks_to t q) b → IsPast p q b
past_in p q t b late belief =
    let period : t ≡ b.period = sym (length-looks_to t q late) ∙ belief.periods in
    record { late = omega (arith, period, late); belief = subst (λ (n : ℕ). IsBelief p (looks_to n q) b) period belief }

-- in the period of its last look
pub past_after : (p : Problem) (q : List ℕ) (b : BeliefState) → IsAfter p q b → IsPast p q b
past_after p q b after = past_in p q (max 1 (length q)) b (le-max_right 1 (length q)) after

-- its period is at most that of the next look
pub near_after : (p : Problem) (q : List ℕ) (b : BeliefState) → IsAfter p q b → b.period ≤ length q + 1
near_after p q b after = omega (arith, length-looks_to (max 1 (length q)) q (le-max_right 1 (length q)), after.periods)

-- a belief with a look in each period
pub past_whole : (p : Problem) (q : List ℕ) (b : BeliefState) → IsBelief p (map Some q) b → IsPast p q b
past_whole p q b belief =
    let period : b.period ≡ length q = omega (arith, belief.periods, length-map q Some) in
    record { late = omega (arith, period); belief = rw (looks_to-whole b.period q period) belief }
