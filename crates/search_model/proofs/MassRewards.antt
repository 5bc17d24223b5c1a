-- What looks find of masses together is at most the sum of what each finds alone (Martins 1993).
use Rattle.std.proofs.Common.{ℕ, zero, suc, ◌+◌, ◌*◌, ◌-◌, ◌^◌, ◌<◌, ◌≤◌, ◌≡◌, List, [], ◌∷◌, length, refl, sym, ap, ◌∙◌, arith, sum_by, mul-le-mul_left, mul-le-mul_right, pow-suc}
use Rattle.std.specs.List.{range_with_len}
use Rattle.std.proofs.Math.Nat.{pow-zero}
use Rattle.drift_chain.specs.DriftRows.{part_of}
use Rattle.sweep_table.specs.LookParts.{factor_of}
use Rattle.sweep_table.proofs.Factors.{factor_of-le}
use Rattle.search_model.specs.Problem.{Problem, IsProblem}
use Rattle.search_model.specs.Legal.{last_of}
use Rattle.search_model.specs.Tracks.{tracks, steps_product}
use Rattle.search_model.specs.Bounds.{sum_along}
use Rattle.search_model.specs.Following.{after_of}
use Rattle.search_model.specs.Exchange.{missed_unit, unit_reward, reward_for, drifted}
use Rattle.search_model.specs.Laws.{MassesTogether, RewardsByDrift}
use Rattle.list_laws.proofs.Sums.{sum_by-same, sum_by-times, sum_by-plus, sum_by-exchange, sum_by-range-le, sum_by-range-same}
use Rattle.search_model.proofs.After.{after_of-zero, after_of-cons}
use Rattle.search_model.proofs.DriftSums.{steps_total}
use Rattle.search_model.proofs.LeastBest.{sum_along-cons}
use Rattle.search_model.proofs.TrackSums.{one_track, sum_tracks-cons}

-- a look finds of a unit in its cell what it doesn't miss
unit_reward-here : (p : Problem) (s c a : ℕ) → unit_reward p s c s a ≡ p.sweep.denominator - factor_of p.sweep s a c
unfolding unit_reward steps_product
unit_reward-here p s c a =
    let none : s - s ≡ 0 = omega arith in
    rw none (one_track (λ z. steps_product p s c z * (p.sweep.denominator - factor_of p.sweep s a (last_of c z))) p.cells ∙ omega arith)

-- and later, of its parts after the step
unit_reward-later : (p : Problem) (s c t a : ℕ) → s < t → unit_reward p s c t a ≡ sum_by (λ d. part_of p.drift s c d * unit_reward p (s + 1) d t a) (range_with_len 0 p.cells)
unfolding unit_reward steps_product
unit_reward-later p s c t a before =
    let more : t - s ≡ suc (t - (s + 1)) = omega (arith, before) in
    let n = t - (s + 1) in
    let found : ℕ → List ℕ → ℕ = λ d z. steps_product p (s + 1) d z * (p.sweep.denominator - factor_of p.sweep t a (last_of d z)) in
    rw more
    (sum_tracks-cons p.cells n (λ z. steps_product p s c z * (p.sweep.denominator - factor_of p.sweep t a (last_of c z)))
    ∙ sum_by-same _ _ (range_with_len 0 p.cells) (λ d.
    sum_by-same _ (λ z. found d z * part_of p.drift s c d) (tracks p.cells n) (λ z. omega arith)
    ∙ sum_by-times (found d) (part_of p.drift s c d) (tracks p.cells n)
    ∙ omega arith))

-- what a look finds of masses that have drifted for n steps, and drift for m more
found_within : (p : Problem) (s : ℕ) (masses : ℕ → ℕ) (n m t a : ℕ) → s + n + m ≡ t →
    sum_by (λ c. masses c * unit_reward p s c t a) (range_with_len 0 p.cells) ≡ sum_by (λ d. drifted p s masses n d * unit_reward p (s + n) d t a) (range_with_len 0 p.cells)
unfolding drifted
found_within p s masses zero m t a is = let e : s + 0 ≡ s = omega arith in rw e refl
found_within p s masses (suc n) m t a is =
    let cells = range_with_len 0 p.cells in
    let next : s + n + 1 ≡ s + suc n = omega arith in
    let unit : ℕ → ℕ = λ d. unit_reward p (s + suc n) d t a in
    let later : (c : ℕ) → unit_reward p (s + n) c t a ≡ sum_by (λ d. part_of p.drift (s + n) c d * unit d) cells =
    λ c. unit_reward-later p (s + n) c t a (omega (arith, is)) ∙ rw next refl in
    found_within p s masses n (suc m) t a (omega (arith, is))
    ∙ sum_by-same _ _ cells (λ c.
    ap (λ (k : ℕ). drifted p s masses n c * k) (later c)
    ∙ sym (sum_by-same _ (λ d. part_of p.drift (s + n) c d * unit d * drifted p s masses n c) cells (λ d. omega arith)
    ∙ sum_by-times (λ d. part_of p.drift (s + n) c d * unit d) (drifted p s masses n c) cells
    ∙ omega arith))
    ∙ sum_by-exchange (λ c d. drifted p s masses n c * part_of p.drift (s + n) c d * unit d) cells cells
    ∙ sum_by-same _ _ cells (λ d. sum_by-times (λ c. drifted p s masses n c * part_of p.drift (s + n) c d) (unit d) cells)

pub rewards_by_drift : RewardsByDrift
unfolding reward_for
rewards_by_drift p s masses t a order =
    let n = t - s in
    let is : s + n ≡ t = omega (arith, order) in
    let cells = range_with_len 0 p.cells in
    let here : sum_by (λ d. drifted p s masses n d * unit_reward p (s + n) d t a) cells ≡ sum_by (λ d. drifted p s masses n d * (p.sweep.denominator - factor_of p.sweep t a d)) cells =
    sum_by-same _ _ cells (λ d. ap (λ (k : ℕ). drifted p s masses n d * k) (rw is (unit_reward-here p t d a))) in
    rw (found_within p s masses n 0 t a (omega (arith, is)), here) refl

module _ (p : Problem) (sound : IsProblem p) (s : ℕ) (masses : ℕ → ℕ) (a : ℕ) where
  -- what the look from a in period s misses of the masses, after the step
  abbrev pub carried : ℕ → ℕ
  carried d = sum_by (λ c. masses c * factor_of p.sweep s a c * part_of p.drift s c d) (range_with_len 0 p.cells)

  -- a sum over the carried masses, by the cells that they come from
  pub by_source : (f : ℕ → ℕ) → sum_by (λ d. carried d * f d) (range_with_len 0 p.cells) ≡ sum_by (λ c. masses c * factor_of p.sweep s a c * sum_by (λ d. part_of p.drift s c d * f d) (range_with_len 0 p.cells)) (range_with_len 0 p.cells)
  by_source f =
      let cells = range_with_len 0 p.cells in
      let kept : ℕ → ℕ = λ c. masses c * factor_of p.sweep s a c in
      sum_by-same _ _ cells (λ d. sym (sum_by-times (λ c. kept c * part_of p.drift s c d) (f d) cells))
      ∙ sum_by-exchange (λ d c. kept c * part_of p.drift s c d * f d) cells cells
      ∙ sum_by-same _ _ cells (λ c.
      sum_by-same _ (λ d. part_of p.drift s c d * f d * kept c) cells (λ d. omega arith)
      ∙ sum_by-times (λ d. part_of p.drift s c d * f d) (kept c) cells
      ∙ omega arith)

  -- what is carried sums to what the look misses, times the parts of the step
  pub carried-total : sum_by carried (range_with_len 0 p.cells) ≡ sum_by (λ c. masses c * factor_of p.sweep s a c) (range_with_len 0 p.cells) * p.drift.denominator
  carried-total =
      let cells = range_with_len 0 p.cells in
      sum_by-same carried (λ e. carried e * 1) cells (λ e. omega arith)
      ∙ by_source (λ _. 1)
      ∙ sum_by-range-same p.cells _ (λ c. masses c * factor_of p.sweep s a c * p.drift.denominator) (λ c lt.
      ap (λ (n : ℕ). masses c * factor_of p.sweep s a c * n) (sum_by-same _ (part_of p.drift s c) cells (λ e. omega arith) ∙ steps_total p sound s c lt))
      ∙ sum_by-times (λ c. masses c * factor_of p.sweep s a c) p.drift.denominator cells

  -- what later looks miss of what is carried, all looks miss of the masses
  pub carried-missed : (y : List ℕ) (m : ℕ) →
      sum_by (λ e. carried e * missed_unit p (s + 1) y m e) (range_with_len 0 p.cells) ≡ sum_by (λ c. masses c * missed_unit p s (a ∷ y) (suc m) c) (range_with_len 0 p.cells)
  carried-missed y m =
      let cells = range_with_len 0 p.cells in
      by_source (missed_unit p (s + 1) y m)
      ∙ sum_by-same _ _ cells (λ c.
      let on : sum_by (λ e. part_of p.drift s c e * missed_unit p (s + 1) y m e) cells ≡ after_of p s c y (suc m) =
      sum_by-same _ _ cells (λ e. omega arith) ∙ sym (after_of-cons p s c y m) in
      ap (λ (n : ℕ). masses c * factor_of p.sweep s a c * n) on ∙ omega arith)

  -- masses are what the look misses of them and what it finds
  pub apart :
      sum_by (λ c. masses c * factor_of p.sweep s a c) (range_with_len 0 p.cells) + sum_by (λ c. masses c * (p.sweep.denominator - factor_of p.sweep s a c)) (range_with_len 0 p.cells)
      ≡ sum_by masses (range_with_len 0 p.cells) * p.sweep.denominator
  apart =
      let cells = range_with_len 0 p.cells in
      let g = p.sweep.denominator in
      let f : ℕ → ℕ = λ c. factor_of p.sweep s a c in
      sym (sum_by-plus (λ c. masses c * f c) (λ c. masses c * (g - f c)) cells)
      ∙ sum_by-same _ (λ c. masses c * g) cells (λ c.
      let most : f c ≤ g = factor_of-le p.sweep sound.sweep s a c in
      let e : f c + (g - f c) ≡ g = omega (arith, most) in
      omega arith ∙ ap (λ (n : ℕ). masses c * n) e)
      ∙ sum_by-times masses g cells

  -- the rewards of what is carried are no more than those of the masses
  pub carried-below : (t b : ℕ) → s < t → t ≤ p.horizon → reward_for p (s + 1) carried t b ≤ reward_for p s masses t b
  unfolding reward_for
  carried-below t b before within =
      let cells = range_with_len 0 p.cells in
      let g = p.sweep.denominator in
      let f : ℕ → ℕ = λ c. factor_of p.sweep s a c in
      let unit : ℕ → ℕ = λ c. unit_reward p s c t b in
      let moved : sum_by (λ d. carried d * unit_reward p (s + 1) d t b) cells ≡ sum_by (λ c. masses c * f c * unit c) cells =
      by_source (λ d. unit_reward p (s + 1) d t b) ∙ sum_by-same _ _ cells (λ c. ap (λ (n : ℕ). masses c * f c * n) (sym (unit_reward-later p s c t b before))) in
      let terms : sum_by (λ c. masses c * f c * unit c) cells ≤ sum_by (λ c. masses c * unit c * g) cells =
      sum_by-range-le p.cells (λ c. masses c * f c * unit c) (λ c. masses c * unit c * g) (λ c lt.
      let most : f c ≤ g = factor_of-le p.sweep sound.sweep s a c in
      omega (arith, mul-le-mul_left (masses c * unit c) most)) in
      let out = sum_by-times (λ c. masses c * unit c) g cells in
      let looks : g ^ (p.horizon - s) ≡ g ^ (p.horizon - (s + 1)) * g =
      ap (λ (n : ℕ). g ^ n) (let e : p.horizon - s ≡ suc (p.horizon - (s + 1)) = omega (arith, before, within) in e) ∙ pow-suc g (p.horizon - (s + 1)) in
      let steps = p.drift.denominator ^ (p.horizon - t) in
      let less : sum_by (λ d. carried d * unit_reward p (s + 1) d t b) cells ≤ sum_by (λ c. masses c * unit c) cells * g = omega (arith, moved, terms, out) in
      rw looks (omega (arith, mul-le-mul_right (steps * g ^ (p.horizon - (s + 1))) less))

-- rewards that are no more in each period from t on sum to no more
pub sum_along-less : (r s : ℕ → ℕ → ℕ) (t last : ℕ) (y : List ℕ) → t + length y ≤ last + 1 → ((u b : ℕ) → t ≤ u → u ≤ last → r u b ≤ s u b) → sum_along r t y ≤ sum_along s t y
unfolding sum_along
sum_along-less r s t last [] size h = omega arith
sum_along-less r s t last (b ∷ y) size h =
    let later = sum_along-less r s (t + 1) last y (omega (arith, size)) (λ u c from to. h u c (omega (arith, from)) to) in
    omega (arith, later, h t b (omega arith) (omega (arith, size)))

-- the reward of a look from the masses of its own period
reward_for-here : (p : Problem) (s : ℕ) (masses : ℕ → ℕ) (a : ℕ) →
    reward_for p s masses s a ≡ sum_by (λ c. masses c * (p.sweep.denominator - factor_of p.sweep s a c)) (range_with_len 0 p.cells) * (p.drift.denominator ^ (p.horizon - s) * p.sweep.denominator ^ (p.horizon - s))
unfolding reward_for
reward_for-here p s masses a =
    rw (sum_by-same (λ c. masses c * unit_reward p s c s a) _ (range_with_len 0 p.cells) (λ c. ap (λ (n : ℕ). masses c * n) (unit_reward-here p s c a))) (omega arith)

first_step : (a b q missed here later : ℕ) → a * q ≤ missed + later → here ≡ b * q → (a + b) * q ≤ missed + (here + later)
first_step a b q missed here later h e = omega (arith, h, e)

-- all that masses in period s can lose, m periods to come, is at most what the looks of y miss of them, and what each look finds alone
pub masses_together : MassesTogether
masses_together p sound zero s masses [] size whole = absurd (omega (arith, size))
masses_together p sound zero s masses (a ∷ b ∷ y) size whole = absurd (omega (arith, size))
masses_together p sound zero s masses (a ∷ []) size whole =
    let cells = range_with_len 0 p.cells in
    let g = p.sweep.denominator in
    let f : ℕ → ℕ = λ c. factor_of p.sweep s a c in
    let none : p.horizon - s ≡ 0 = omega (arith, whole) in
    let missed = sum_by-same (λ c. masses c * missed_unit p s (a ∷ []) 0 c) (λ c. masses c * f c) cells (λ c. rw (after_of-zero p s c []) (omega arith)) in
    let here = rw (none, pow-zero p.drift.denominator, pow-zero g) at (reward_for-here p s masses a) in
    rw (sum_along-cons (reward_for p s masses) s a [], pow-zero p.drift.denominator, pow-suc g 0, pow-zero g)
    (omega (arith, missed, here, apart p sound s masses a))
masses_together p sound (suc m) s masses [] size whole = absurd (omega (arith, size))
masses_together p sound (suc m) s masses (a ∷ y) size whole =
    let cells = range_with_len 0 p.cells in
    let g = p.sweep.denominator in
    let d = p.drift.denominator in
    let f : ℕ → ℕ = λ c. factor_of p.sweep s a c in
    let left : p.horizon - s ≡ suc m = omega (arith, whole) in
    let kept = sum_by (λ c. masses c * f c) cells in
    let seen = sum_by (λ c. masses c * (g - f c)) cells in
    let q = d ^ suc m * g ^ suc m in
    let here = rw left at (reward_for-here p s masses a) in
    let after = masses_together p sound m (s + 1) (carried p sound s masses a) y (omega (arith, size)) (omega (arith, whole)) in
    let less = sum_along-less (reward_for p (s + 1) (carried p sound s masses a)) (reward_for p s masses) (s + 1) p.horizon y (omega (arith, size, whole))
    (λ u b from to. carried-below p sound s masses a u b (omega (arith, from)) to) in
    let all_kept : kept * q ≡ sum_by (carried p sound s masses a) cells * (d ^ m * g ^ suc m) =
    rw (carried-total p sound s masses a, pow-suc d m) (omega arith) in
    let before : kept * q ≤ sum_by (λ c. masses c * missed_unit p s (a ∷ y) (suc m) c) cells + sum_along (reward_for p s masses) (s + 1) y =
    omega (arith, all_kept, after, carried-missed p sound s masses a y m, less) in
    let parts : sum_by masses cells * (d ^ suc m * g ^ suc (suc m)) ≡ (kept + seen) * q =
    rw (pow-suc g (suc m), apart p sound s masses a) (omega arith) in
    rw (parts, sum_along-cons (reward_for p s masses) s a y)
    (first_step kept seen q _ _ _ before here)
