-- That the bound fits: no reward above the whole weight, and no sum of them
-- above so many whole weights.
use Rattle.std.proofs.Common.{ℕ, suc, ◌+◌, ◌*◌, ◌-◌, ◌^◌, ◌<◌, ◌≤◌, ◌≡◌, List, length, slice_index, sym, ap, ◌∙◌, arith, sum, sum_by}
use Rattle.std.specs.List.{range_with_len}
use Rattle.std.proofs.lemmas.List.Sums.{sum-map}
use Rattle.std.proofs.Math.Nat.{pow-suc, mul-le-mul_left, le_refl}
use Rattle.std.proofs.lemmas.Nat.{mul-le}
use Rattle.sweep_table.specs.LookParts.{factor_of}
use Rattle.search_model.specs.Problem.{Problem, IsProblem}
use Rattle.search_model.specs.Tracks.{missed_weight, whole_weight}
use Rattle.search_model.specs.Bounds.{reward_of}
use Rattle.list_laws.proofs.Sums.{sum_by-range-le, sum_by-times}
use Rattle.search_model.proofs.Totals.{nothing_is_cut_off, whole_weight-fits}
use Rattle.longest_walk.specs.Sums.{highest_sum}
use Rattle.search_model.specs.Reference.{greatest_sum}
use Rattle.longest_walk.proofs.Highest.{highest_above, highest_below}
use Rattle.belief_update.specs.Masses.{mass_of, masses_of, looks_to}
use Rattle.belief_update.specs.Belief.{BeliefState, IsBelief}
use Rattle.belief_update.proofs.Missed.{missed_by_masses_hold}
use Rattle.belief_update.proofs.Rewards.{rewards_by_masses_hold}
use Rattle.mean_bound.specs.Rewards.{reward_by}
use Rattle.mean_bound.proofs.Found.{found_is}

-- what is found of some masses, times the parts to come, is within all of them times these and one look's parts
scaled_within : (found most masses g drifts looks : ℕ) → found ≤ most → most ≡ masses * g → found * drifts * looks ≤ masses * drifts * (looks * g)
scaled_within found most masses g drifts looks le is =
    let within : found ≤ masses * g = omega (arith, le, is) in
    let scaled = mul-le _ _ _ _ within (le_refl (drifts * looks)) in
    omega (arith, scaled)

module _ (p : Problem) (sound : IsProblem p) (q : List ℕ) where
  -- a look finds no more than is missed
  reward-le_missed : (t a : ℕ) → length q < t → t ≤ p.horizon → reward_of p q t a ≤ missed_weight p q
  reward-le_missed t a later last =
      let all = range_with_len 0 p.cells in
      let g = p.sweep.denominator in
      let mass : ℕ → ℕ = mass_of p (looks_to t q) in
      let drifts = p.drift.denominator ^ (p.horizon - t) in
      let looks = g ^ (p.horizon - length q - 1) in
      let found : sum_by (λ c. mass c * (g - factor_of p.sweep t a c)) all ≤ sum_by (λ c. mass c * g) all =
      sum_by-range-le p.cells (λ c. mass c * (g - factor_of p.sweep t a c)) (λ c. mass c * g) (λ c lt. mul-le-mul_left (mass c) (omega arith)) in
      let whole : sum_by (λ c. mass c * g) all ≡ sum (masses_of p (looks_to t q)) * g = sum_by-times mass g all ∙ ap (λ (s : ℕ). s * g) (sym (sum-map mass all)) in
      let more : g ^ (p.horizon - length q) ≡ looks * g = ap (λ (n : ℕ). g ^ n) (let e : p.horizon - length q ≡ suc (p.horizon - length q - 1) = omega (arith, later, last) in e) ∙ pow-suc g (p.horizon - length q - 1) in
      let missed = missed_by_masses_hold p sound q t (omega (arith, later)) (omega (arith, later)) last in
      let reward = rewards_by_masses_hold p sound q t a later last in
      rw (reward, missed, more) (scaled_within _ _ _ g drifts looks found whole)

  -- no reward is above the whole weight
  pub reward-le : (t a : ℕ) → length q < t → t ≤ p.horizon → reward_of p q t a ≤ whole_weight p
  reward-le t a later last = omega (arith, reward-le_missed t a later last, nothing_is_cut_off p q sound)

  -- what a look finds fits
  pub found_fits : (t a : ℕ) (b : BeliefState) → length q < t → t ≤ p.horizon → IsBelief p (looks_to t q) b →
      reward_by p (length q) t (slice_index b.masses) a < 2 ^ 127
  found_fits t a b later last belief =
      omega (arith, found_is p sound q t a b later last belief, reward-le t a later last, whole_weight-fits p sound)

-- rewards in the periods after the first k, none of which is above the whole weight
module _ (p : Problem) (sound : IsProblem p) (k : ℕ) (r : ℕ → ℕ → ℕ) (each : (t a : ℕ) → k < t → t ≤ p.horizon → r t a ≤ whole_weight p) (short : k < p.horizon) where
  -- the greatest of all periods sum to no more than so many times the whole weight
  pub highest-le : highest_sum p.positions r (p.horizon - k) (k + 1) ≤ (p.horizon - k) * whole_weight p
  highest-le =
      highest_below p.positions (whole_weight p) r (p.horizon - k) (k + 1) (λ u a from to here.
      each u a (omega (arith, from)) (omega (arith, to, short)))

  -- and no walk has more
  pub greatest-le : (a : ℕ) → a < length p.moves → greatest_sum p.moves r (p.horizon - k) (k + 1) a ≤ (p.horizon - k) * whole_weight p
  greatest-le a here =
      let above = highest_above p.moves r (p.horizon - k) (k + 1) a sound.grid here in
      let below = highest_below (length p.moves) (whole_weight p) r (p.horizon - k) (k + 1) (λ u c from to there. each u c (omega (arith, from)) (omega (arith, to, short))) in
      omega (arith, above, below)
