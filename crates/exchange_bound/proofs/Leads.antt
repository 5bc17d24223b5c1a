-- Leads: how they begin, what a step makes of them, and what looks find of them.
use Rattle.std.proofs.Common.{ℕ, zero, suc, ◌+◌, ◌*◌, ◌-◌, ◌^◌, ◌<◌, ◌≤◌, ◌≡◌, List, [], ◌∷◌, ◌++◌, None, length, slice_index, refl, sym, ap, ◌∙◌, arith, sum_by, mul-le-mul_right}
use Rattle.std.specs.List.{range_with_len}
use Rattle.drift_chain.specs.DriftRows.{part_of}
use Rattle.sweep_table.specs.LookParts.{factor_of}
use Rattle.search_model.specs.Problem.{Problem, IsProblem}
use Rattle.search_model.specs.Tracks.{whole_weight}
use Rattle.search_model.specs.Exchange.{reward_for, drifted, mass_behind, lead_of}
use Rattle.search_model.proofs.Behind.{mean_rewards_are}
use Rattle.search_model.proofs.LookRows.{found_in_cells}
use Rattle.search_model.proofs.MassRewards.{rewards_by_drift}
use Rattle.list_laws.proofs.Sums.{sum_by-range-le, sum_by-range-part, sum_by-range-same}
use Rattle.belief_update.specs.Masses.{mass_of, looks_to, AreBehind}
use Rattle.belief_update.specs.Belief.{BeliefState}
use Rattle.belief_update.specs.Trails.{IsAhead}
use Rattle.belief_update.specs.Found.{found_of}
use Rattle.belief_update.proofs.BeliefSteps.{mass_at}
use Rattle.belief_update.proofs.Forward.{masses_forward, masses_drift}
use Rattle.belief_update.proofs.Looks.{length-looks_to, looks_to-drift}
use Rattle.belief_update.proofs.MassTotals.{total_after-is, total_after-fits}
use Rattle.mean_bound.proofs.Fitting.{reward-le}
use Rattle.exchange_bound.specs.Leads.{LeadState, IsLead, lead_reward}

-- masses that are no more in any cell drift on to no more
drifted-le : (p : Problem) (s : ℕ) (low high : ℕ → ℕ) → ((c : ℕ) → c < p.cells → low c ≤ high c) → (n d : ℕ) → d < p.cells → drifted p s low n d ≤ drifted p s high n d
unfolding drifted
drifted-le p s low high le zero d here = le d here
drifted-le p s low high le (suc n) d here =
    sum_by-range-le p.cells _ _ (λ c lt. mul-le-mul_right (part_of p.drift (s + n) c d) (drifted-le p s low high le n c lt))

-- and a look's reward for them is no more
reward_for-le : (p : Problem) (s : ℕ) (low high : ℕ → ℕ) → ((c : ℕ) → c < p.cells → low c ≤ high c) → (t a : ℕ) → reward_for p s low t a ≤ reward_for p s high t a
unfolding reward_for
reward_for-le p s low high le t a = mul-le-mul_right _ (mul-le-mul_right _ (sum_by-range-le p.cells _ _ (λ c lt. mul-le-mul_right _ (le c lt))))

-- a mass with no look after a prefix fits
mass_fits : (p : Problem) → IsProblem p → (q : List ℕ) (t d : ℕ) → length q < t → t ≤ p.horizon → d < p.cells → mass_of p (looks_to t q) d < 2 ^ 127
mass_fits p sound q t d later last here =
    let before = looks_to (t - 1) q in
    let is : t ≡ t - 1 + 1 = omega (arith, later) in
    let looks : looks_to t q ≡ before ++ None ∷ [] = ap (λ (u : ℕ). looks_to u q) is ∙ looks_to-drift (t - 1) q (omega (arith, later)) in
    let part = sum_by-range-part p.cells (mass_of p (before ++ None ∷ [])) d here in
    let fits = total_after-fits p sound before None (omega (arith, length-looks_to (t - 1) q (omega (arith, later)), later, last)) in
    rw looks (omega (arith, part, rw (total_after-is p (before ++ None ∷ [])) at fits))

module _ (p : Problem) (q r : List ℕ) where
  -- no cell leads by more than its mass
  lead_of-le : (c : ℕ) → lead_of p q r c ≤ mass_behind p q c
  unfolding lead_of
  lead_of-le c = omega arith

  -- no reward for the lead is above the whole weight
  pub lead_reward-le : IsProblem p → (t a : ℕ) → length q < t → t ≤ p.horizon → lead_reward p q r t a ≤ whole_weight p
  lead_reward-le sound t a later last =
      let less = reward_for-le p (length q + 1) (lead_of p q r) (mass_behind p q) (λ c lt. lead_of-le c) t a in
      omega (arith, less, mean_rewards_are p q t a sound later last, reward-le p sound q t a later last)

  -- the lead begins with the differences of the masses ahead
  pub lead_starts : (a : BeliefState) (others masses : List ℕ) → length r ≡ length q → IsAhead p q a → AreBehind p r others → length masses ≡ p.cells →
      ((c : ℕ) → c < p.cells → slice_index masses c ≡ slice_index a.masses c - slice_index others c) →
      IsLead p q r (record { period = a.period; masses = masses })
  unfolding lead_of drifted
  lead_starts a others masses long ahead behind size each =
      let period : a.period ≡ length q + 1 = sym ahead.periods ∙ length-looks_to (length q + 1) q (omega arith) in
      let none : a.period - (length q + 1) ≡ 0 = omega (arith, period) in
      record {
        later = omega (arith, period);
        last = ahead.last;
        cells = size;
        each = λ c lt.
            let of_q = mass_at p (looks_to (length q + 1) q) a ahead c lt ∙ masses_forward p q (length q + 1) c (omega arith) in
            let of_r = behind c lt ∙ masses_forward p r (length r + 1) c (omega arith) in
            rw (each c lt, of_q, of_r, none) refl;
      }

  module _ (l : LeadState) (lead : IsLead p q r l) where
    -- what its masses send on in a step is the lead in the next period
    lead_step : (d : ℕ) →
        sum_by (λ c. slice_index l.masses c * part_of p.drift l.period c d) (range_with_len 0 (length l.masses))
        ≡ drifted p (length q + 1) (lead_of p q r) (l.period + 1 - (length q + 1)) d
    unfolding drifted
    lead_step d =
        let n = l.period - (length q + 1) in
        let more : l.period + 1 - (length q + 1) ≡ suc n = omega (arith, lead.later) in
        let here : length q + 1 + n ≡ l.period = omega (arith, lead.later) in
        rw (lead.cells, more)
        (sum_by-range-same p.cells _ (λ c. drifted p (length q + 1) (lead_of p q r) n c * part_of p.drift (length q + 1 + n) c d) (λ c lt. rw (lead.each c lt, here) refl))

    pub lead_moves : (ys : List ℕ) → l.period < p.horizon → length ys ≡ length l.masses →
        ((d : ℕ) → d < length l.masses → slice_index ys d ≡ sum_by (λ c. slice_index l.masses c * part_of p.drift l.period c d) (range_with_len 0 (length l.masses))) →
        IsLead p q r (record { period = l.period + 1; masses = ys })
    lead_moves ys more size each = record {
      later = omega (arith, lead.later);
      last = omega (arith, more);
      cells = size ∙ lead.cells;
      each = λ d lt. each d (omega (arith, lead.cells, lt)) ∙ lead_step d;
    }

    -- and fits
    pub lead_step-fits : IsProblem p → l.period < p.horizon → (d : ℕ) → d < length l.masses →
        sum_by (λ c. slice_index l.masses c * part_of p.drift l.period c d) (range_with_len 0 (length l.masses)) < 2 ^ 127
    lead_step-fits sound more d inside =
        let n = l.period + 1 - (length q + 1) in
        let here : d < p.cells = omega (arith, lead.cells, inside) in
        let less = drifted-le p (length q + 1) (lead_of p q r) (mass_behind p q) (λ c lt. lead_of-le c) n d here in
        let fits = mass_fits p sound q (length q + 1 + n) d (omega arith) (omega (arith, lead.later, more)) here in
        rw (lead_step d) (omega (arith, less, masses_drift p q n d, fits))

    -- what a look finds of the lead, times the parts of what is to come, is its reward
    pub lead_found : IsProblem p → (a : ℕ) →
        found_of p l.period a (slice_index l.masses) * (p.drift.denominator ^ (p.horizon - l.period) * p.sweep.denominator ^ (p.horizon - (length q + 1)))
        ≡ lead_reward p q r l.period a
    lead_found sound a =
        let t = l.period in
        let g = p.sweep.denominator in
        let mass : ℕ → ℕ = drifted p (length q + 1) (lead_of p q r) (t - (length q + 1)) in
        let masses : sum_by (λ c. mass c * (g - factor_of p.sweep t a c)) (range_with_len 0 p.cells) ≡ sum_by (λ c. slice_index l.masses c * (g - factor_of p.sweep t a c)) (range_with_len 0 p.cells) =
        sum_by-range-same p.cells _ _ (λ c lt. rw (lead.each c lt) refl) in
        let law = rewards_by_drift p (length q + 1) (lead_of p q r) t a (omega (arith, lead.later)) in
        rw (law, masses, found_in_cells p sound t a (slice_index l.masses)) (omega arith)
