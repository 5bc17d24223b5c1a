-- The beliefs along a prefix, and what a map says of their periods.
use Rattle.std.proofs.Common.{ℕ, ◌+◌, ◌-◌, ◌<◌, ◌≤◌, ◌≡◌, List, ◌∷◌, Some, map, take, length, slice_index, subst, ap, arith}
use Rattle.std.proofs.lemmas.List.{length-take-le}
use Rattle.search_model.specs.Problem.{Problem}
use Rattle.belief_update.specs.Belief.{BeliefState, IsBelief}
use Rattle.belief_update.specs.Trails.{IsAfter}
use Rattle.belief_update.proofs.Looks.{looks_to-some}
use Rattle.mission_report.specs.Report.{mass_rows}
use Rattle.mission_report.specs.Map.{looked_row, period_block}
use Rattle.mission_report.proofs.Values.{period_is}
use Rattle.mission_report.proofs.Masses.{mass_rows-front}

-- the belief after a look of a prefix has a look in each period so far
pub after_look : (p : Problem) (q prefix : List ℕ) (i : ℕ) (b : BeliefState) → prefix ≡ q → i < length q → IsAfter p (take (i + 1) prefix) b → IsBelief p (map Some (take (i + 1) q)) b
after_look p q prefix i b same lt after =
    let some : 1 ≤ length (take (i + 1) q) = omega (arith, length-take-le (i + 1) q (omega (arith, lt))) in
    let is : IsAfter p (take (i + 1) q) b = subst (λ (r : List ℕ). IsAfter p (take (i + 1) r) b) same after in
    rw (looks_to-some (take (i + 1) q) some) at is

-- what is said by the belief after a look is what a map says of the period
pub block_is : (p : Problem) (q looks : List ℕ) (i : ℕ) (b : BeliefState) → looks ≡ q → i < length q → IsBelief p (map Some (take (i + 1) q)) b →
    looked_row p b.period (slice_index looks i) ∷ mass_rows p (take (i + 1) q) b.period ≡ period_block p q (1 + i)
block_is p q looks i b same lt belief =
    let period : b.period ≡ 1 + i = omega (arith, period_is p (take (i + 1) q) b belief, length-take-le (i + 1) q (omega (arith, lt))) in
    let place : 1 + i - 1 ≡ i = omega arith in
    let next : i + 1 ≡ 1 + i = omega arith in
    rw (same, period, place, next) (ap (λ (rows : List (List (List ℕ))). looked_row p (1 + i) (slice_index q i) ∷ rows) (mass_rows-front p q (1 + i)))
