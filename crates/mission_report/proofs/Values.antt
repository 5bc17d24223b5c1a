-- What a prefix misses, by the belief after the last of its looks.
use Rattle.std.proofs.Common.{ℕ, ◌*◌, ◌-◌, ◌^◌, ◌≡◌, List, Some, map, length, sym, ◌∙◌, sum}
use Rattle.std.proofs.lemmas.List.{length-map}
use Rattle.search_model.specs.Problem.{Problem, IsProblem}
use Rattle.search_model.specs.Legal.{IsPath}
use Rattle.search_model.specs.Tracks.{missed_weight}
use Rattle.belief_update.specs.Belief.{BeliefState, IsBelief}
use Rattle.belief_update.proofs.PrefixValues.{undetected_is, past_whole}

-- that belief is in the period of the last look
pub period_is : (p : Problem) (q : List ℕ) (b : BeliefState) → IsBelief p (map Some q) b → b.period ≡ length q
period_is p q b belief = sym belief.periods ∙ length-map q Some

pub last_is : (p : Problem) (q : List ℕ) (b : BeliefState) → IsPath p q → IsBelief p (map Some q) b → b.period ≡ p.horizon
last_is p q b path belief = period_is p q b belief ∙ path.whole

-- its masses, times the parts to come, are what the prefix misses
pub missed_by : (p : Problem) → IsProblem p → (q : List ℕ) (b : BeliefState) → IsBelief p (map Some q) b →
    sum b.masses * (p.drift.denominator ^ (p.horizon - b.period) * p.sweep.denominator ^ (p.horizon - b.period)) ≡ missed_weight p q
missed_by p sound q b belief = rw (← period_is p q b belief) at (undetected_is p sound q b (past_whole p q b belief))
