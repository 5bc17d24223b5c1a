-- What the steps of a belief need, and what they make.
use Rattle.std.proofs.Common.{ℕ, zero, suc, ◌+◌, ◌*◌, ◌-◌, ◌^◌, ◌<◌, ◌≤◌, ◌≡◌, true, false, List, [], ◌∷◌, ◌++◌, Option, Some, None, is_some, length, slice_index, refl, sym, ap, ◌∙◌, arith, sum, sum_by, subst, length-append, true≢false}
use Rattle.std.specs.List.{range_with_len}
use Rattle.std.proofs.lemmas.List.Sums.{sum-map}
use Rattle.std.proofs.lemmas.List.FromFn.{fill_by_all, get_or-map-range_with_len}
use Rattle.std.proofs.Math.Seq.{get_or-append_seam}
use Rattle.drift_chain.specs.DriftRows.{part_of}
use Rattle.sweep_table.specs.LookParts.{factor_of}
use Rattle.search_model.specs.Problem.{Problem, IsProblem, first_of}
use Rattle.list_laws.proofs.Sums.{sum_by-range-part, sum_by-range-same}
use Rattle.belief_update.specs.Masses.{mass_of, masses_of}
use Rattle.belief_update.specs.Belief.{BeliefState, IsBelief, IsReached, IsUnlooked, is_looked}
use Rattle.belief_update.proofs.MassSteps.{mass_of-look, mass_of-drift, mass_of-start}
use Rattle.belief_update.proofs.MassTotals.{total_after-is, total_after-fits, split_last}

-- whether a last period is looked at
pub is_looked-last : (looks : List (Option ℕ)) (look : Option ℕ) → is_looked (looks ++ look ∷ []) ≡ is_some look
is_looked-last looks look =
    let place : length (looks ++ look ∷ []) - 1 ≡ length looks = omega (arith, length-append looks (look ∷ [])) in
    rw place (ap is_some (get_or-append_seam looks look [] None))

-- a mass of a belief
pub mass_at : (p : Problem) (looks : List (Option ℕ)) (b : BeliefState) → IsBelief p looks b → (c : ℕ) → c < p.cells → slice_index b.masses c ≡ mass_of p looks c
mass_at p looks b belief c here = rw belief.masses (get_or-map-range_with_len (mass_of p looks) 0 p.cells c c 0 here (omega arith))

-- a list that has each mass
pub masses_are : (p : Problem) (looks : List (Option ℕ)) (xs : List ℕ) → length xs ≡ p.cells → ((c : ℕ) → c < p.cells → slice_index xs c ≡ mass_of p looks c) → xs ≡ masses_of p looks
masses_are p looks xs size each = fill_by_all (mass_of p looks) xs p.cells 0 size each

-- no look
none_is : (o : Option ℕ) → is_some o ≡ false → o ≡ None
none_is None is = refl
none_is (Some a) is = absurd (true≢false is)

-- the looks of the earlier periods, and that of a belief's own
last_look : (p : Problem) (looks : List (Option ℕ)) (b : BeliefState) → IsBelief p looks b → (front : List (Option ℕ)) × (look : Option ℕ) × (length front + 1 ≡ b.period) × (looks ≡ front ++ look ∷ [])
last_look p looks b belief =
    let parts = split_last (b.period - 1) looks (omega (arith, belief.periods, belief.first)) in
    (parts.0, parts.1, omega (arith, parts.2, belief.first), parts.3)

-- a belief whose period isn't looked at is that after no look in it
pub unlooked_is : (p : Problem) (b : BeliefState) → IsReached p b → b.looked ≡ false → IsUnlooked p b
unlooked_is p b reached unlooked =
    let (looks, belief) = reached in
    let (front, look, _, parts) = last_look p looks b belief in
    let none : look ≡ None = none_is look (sym (is_looked-last front look) ∙ ap is_looked (sym parts) ∙ sym belief.looked ∙ unlooked) in
    (front, subst (λ (made : List (Option ℕ)). IsBelief p made b) (parts ∙ ap (λ (o : Option ℕ). front ++ o ∷ []) none) belief)

-- the masses after a step, by those before it
pub drift_mass_at : (p : Problem) (looks : List (Option ℕ)) (t d : ℕ) → length looks ≡ t → 1 ≤ t →
    sum_by (λ c. mass_of p looks c * part_of p.drift t c d) (range_with_len 0 p.cells) ≡ mass_of p (looks ++ None ∷ []) d
drift_mass_at p looks zero d long some = absurd (omega (arith, some))
drift_mass_at p looks (suc n) d long some =
    let parts = split_last n looks long in
    let P : List (Option ℕ) → Type 0 = λ made. sum_by (λ c. mass_of p made c * part_of p.drift (suc n) c d) (range_with_len 0 p.cells) ≡ mass_of p (made ++ None ∷ []) d in
    let period : suc n ≡ length parts.0 + 1 = omega (arith, parts.2) in
    let step : P (parts.0 ++ parts.1 ∷ []) = rw period (sym (mass_of-drift p parts.0 parts.1 d)) in
    subst P (sym parts.3) step

module _ (p : Problem) (sound : IsProblem p) where
  -- the first parts are the masses at the start
  pub start_is : (xs : List ℕ) → length xs ≡ p.cells → ((c : ℕ) → c < p.cells → slice_index xs c ≡ first_of p c) → IsBelief p (None ∷ []) (record { period = 1; looked = false; masses = xs })
  start_is xs size each = record {
    first = omega arith;
    last = omega (arith, sound.horizon);
    periods = refl;
    looked = refl;
    cells = size;
    masses = masses_are p (None ∷ []) xs size (λ c here. each c here ∙ sym (mass_of-start p c));
  }

  -- the masses of a belief sum to less than 2 ^ 127
  pub belief_fits : (looks : List (Option ℕ)) (b : BeliefState) → IsBelief p looks b → sum b.masses < 2 ^ 127
  belief_fits looks b belief =
      let parts = last_look p looks b belief in
      let total : sum b.masses ≡ sum_by (mass_of p looks) (range_with_len 0 p.cells) = ap (λ (xs : List ℕ). sum xs) belief.masses ∙ sum-map (mass_of p looks) (range_with_len 0 p.cells) in
      let fits = total_after-fits p sound parts.0 parts.1 (omega (arith, parts.2, belief.last)) in
      omega (arith, total, rw (← parts.3, total_after-is p looks) at fits)

  -- after a look the masses, each times its factor, are the belief
  pub look_is : (looks : List (Option ℕ)) (b : BeliefState) (a : ℕ) (ys : List ℕ) → IsBelief p (looks ++ None ∷ []) b → length ys ≡ length b.masses →
      ((c : ℕ) → c < length b.masses → slice_index ys c ≡ slice_index b.masses c * factor_of p.sweep b.period a c) →
      IsBelief p (looks ++ Some a ∷ []) (record { period = b.period; looked = true; masses = ys })
  look_is looks b a ys belief size each =
      let long : length (looks ++ None ∷ []) ≡ length looks + 1 = length-append looks (None ∷ []) in
      let period : b.period ≡ length looks + 1 = omega (arith, belief.periods, long) in
      record {
        first = belief.first;
        last = belief.last;
        periods = omega (arith, length-append looks (Some a ∷ []), period);
        looked = sym (is_looked-last looks (Some a));
        cells = size ∙ belief.cells;
        masses = masses_are p (looks ++ Some a ∷ []) ys (size ∙ belief.cells) (λ c here.
            each c (omega (arith, belief.cells, here)) ∙ rw (period, mass_at p (looks ++ None ∷ []) b belief c here) (sym (mass_of-look p looks a c)));
      }

  -- each mass times its factor fits
  pub look_fits : (looks : List (Option ℕ)) (b : BeliefState) → IsBelief p (looks ++ None ∷ []) b → (a c : ℕ) → c < length b.masses → slice_index b.masses c * factor_of p.sweep b.period a c < 2 ^ 127
  look_fits looks b belief a c here =
      let long : length (looks ++ None ∷ []) ≡ length looks + 1 = length-append looks (None ∷ []) in
      let period : b.period ≡ length looks + 1 = omega (arith, belief.periods, long) in
      let cell : c < p.cells = omega (arith, belief.cells, here) in
      let part = sum_by-range-part p.cells (mass_of p (looks ++ Some a ∷ [])) c cell in
      let fits = total_after-fits p sound looks (Some a) (omega (arith, period, belief.last)) in
      let mass : slice_index b.masses c * factor_of p.sweep b.period a c ≡ mass_of p (looks ++ Some a ∷ []) c = rw (period, mass_at p (looks ++ None ∷ []) b belief c cell) (sym (mass_of-look p looks a c)) in
      omega (arith, mass, part, rw (total_after-is p (looks ++ Some a ∷ [])) at fits)

  -- what the drift makes of the masses, by the masses after it
  drift_mass : (looks : List (Option ℕ)) (b : BeliefState) → IsBelief p looks b → (d : ℕ) →
      sum_by (λ c. slice_index b.masses c * part_of p.drift b.period c d) (range_with_len 0 (length b.masses)) ≡ mass_of p (looks ++ None ∷ []) d
  drift_mass looks b belief d =
      let same = sum_by-range-same p.cells (λ c. slice_index b.masses c * part_of p.drift b.period c d) (λ c. mass_of p looks c * part_of p.drift b.period c d)
      (λ c lt. ap (λ (m : ℕ). m * part_of p.drift b.period c d) (mass_at p looks b belief c lt)) in
      rw belief.cells (same ∙ drift_mass_at p looks b.period d belief.periods belief.first)

  -- after a step the sums of what the masses send on are the belief
  pub drift_is : (looks : List (Option ℕ)) (b : BeliefState) (ys : List ℕ) → IsBelief p looks b → b.period < p.horizon → length ys ≡ length b.masses →
      ((d : ℕ) → d < length b.masses → slice_index ys d ≡ sum_by (λ c. slice_index b.masses c * part_of p.drift b.period c d) (range_with_len 0 (length b.masses))) →
      IsBelief p (looks ++ None ∷ []) (record { period = b.period + 1; looked = false; masses = ys })
  drift_is looks b ys belief more size each = record {
    first = omega arith;
    last = omega (arith, more);
    periods = omega (arith, length-append looks (None ∷ []), belief.periods);
    looked = sym (is_looked-last looks None);
    cells = size ∙ belief.cells;
    masses = masses_are p (looks ++ None ∷ []) ys (size ∙ belief.cells) (λ d here. each d (omega (arith, belief.cells, here)) ∙ drift_mass looks b belief d);
  }

  -- these sums fit
  pub drift_fits : (looks : List (Option ℕ)) (b : BeliefState) → IsBelief p looks b → b.period < p.horizon → (d : ℕ) → d < length b.masses →
      sum_by (λ c. slice_index b.masses c * part_of p.drift b.period c d) (range_with_len 0 (length b.masses)) < 2 ^ 127
  drift_fits looks b belief more d here =
      let part = sum_by-range-part p.cells (mass_of p (looks ++ None ∷ [])) d (omega (arith, belief.cells, here)) in
      let fits = total_after-fits p sound looks None (omega (arith, belief.periods, more)) in
      omega (arith, drift_mass looks b belief d, part, rw (total_after-is p (looks ++ None ∷ [])) at fits)
