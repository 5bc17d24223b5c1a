-- The rewards, by the masses of the cells that a look covers.
use Rattle.std.proofs.Common.{ℕ, ◌+◌, ◌*◌, ◌-◌, ◌<◌, ◌≤◌, ◌≡◌, List, length, slice_index, refl, arith, sum_by}
use Rattle.std.specs.List.{range_with_len}
use Rattle.sweep_table.specs.LookParts.{factor_of}
use Rattle.search_model.specs.Problem.{Problem, IsProblem}
use Rattle.search_model.specs.Bounds.{reward_of}
use Rattle.search_model.proofs.LookRows.{found_in_cells}
use Rattle.list_laws.proofs.Sums.{sum_by-range-same}
use Rattle.belief_update.specs.Masses.{mass_of, looks_to}
use Rattle.belief_update.specs.Belief.{BeliefState, IsBelief}
use Rattle.belief_update.proofs.BeliefSteps.{mass_at}
use Rattle.belief_update.proofs.Rewards.{rewards_by_masses_hold}
use Rattle.mean_bound.specs.Rewards.{reward_by}

-- what a look finds of the masses, times the parts of what is to come, is its reward
pub found_is : (p : Problem) → IsProblem p → (q : List ℕ) (t a : ℕ) (b : BeliefState) → length q < t → t ≤ p.horizon → IsBelief p (looks_to t q) b →
    reward_by p (length q) t (slice_index b.masses) a ≡ reward_of p q t a
found_is p sound q t a b later last belief =
    let looks = looks_to t q in
    let g = p.sweep.denominator in
    let mass : ℕ → ℕ = slice_index b.masses in
    let rest : p.horizon - (length q + 1) ≡ p.horizon - length q - 1 = omega arith in
    let masses : sum_by (λ c. mass_of p looks c * (g - factor_of p.sweep t a c)) (range_with_len 0 p.cells) ≡ sum_by (λ c. mass c * (g - factor_of p.sweep t a c)) (range_with_len 0 p.cells) =
    sum_by-range-same p.cells _ _ (λ c lt. rw (mass_at p looks b belief c lt) refl) in
    let law = rewards_by_masses_hold p sound q t a later last in
    rw (rest, law, masses, found_in_cells p sound t a mass) (omega arith)
