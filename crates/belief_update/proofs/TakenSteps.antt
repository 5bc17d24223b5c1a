-- What looks take of masses, look by look and period by period, and what they leave.
use Rattle.std.proofs.Common.{ℕ, suc, ◌+◌, ◌*◌, ◌-◌, ◌^◌, ◌<◌, ◌≤◌, ◌≡◌, false, List, [], ◌∷◌, ◌++◌, None, map, length, slice_index, refl, sym, ap, ◌∙◌, arith, sum, sum_by, length-append}
use Rattle.std.specs.List.{range_with_len}
use Rattle.std.proofs.lemmas.List.Sums.{sum-map}
use Rattle.std.proofs.lemmas.List.FromFn.{fill_by_all}
use Rattle.std.proofs.lemmas.Nat.{mul-le, pow-add}
use Rattle.std.proofs.Math.Nat.{pow-zero, pow-suc, one-le-pow, mul-le-mul_left, le_refl}
use Rattle.drift_chain.specs.DriftRows.{part_of}
use Rattle.sweep_table.specs.LookParts.{factor_of}
use Rattle.sweep_table.proofs.Factors.{factor_of-le}
use Rattle.exact_parts.proofs.Widths.{part_fits}
use Rattle.search_model.specs.Problem.{Problem, IsProblem}
use Rattle.search_model.specs.Tracks.{missed_weight, value_of, whole_weight}
use Rattle.search_model.proofs.Totals.{nothing_is_cut_off, whole_weight-fits, some_parts}
use Rattle.list_laws.proofs.Sums.{sum_by-range-part, sum_by-range-same, sum_by-times, sum_by-plus}
use Rattle.belief_update.specs.Masses.{mass_of, masses_of, looks_to}
use Rattle.belief_update.specs.Belief.{BeliefState, IsBelief}
use Rattle.belief_update.specs.Trails.{IsAhead}
use Rattle.belief_update.specs.Taken.{TakenState, IsTaken, IsBeside, IsReady, IsLater}
use Rattle.belief_update.proofs.MassSteps.{mass_of-look}
use Rattle.belief_update.proofs.BeliefSteps.{is_looked-last, mass_at, masses_are, drift_mass_at}
use Rattle.belief_update.proofs.Looks.{length-looks_to, looks_to-look, looks_to-drift}
use Rattle.belief_update.proofs.OneMore.{left_and_found}
use Rattle.belief_update.proofs.Missed.{missed_by_masses_hold}

-- with a look, what it leaves of the masses, what it leaves of what was taken, and what it finds of all
look_apart : (m s w k g f : ℕ) → m + s ≡ w * k → f ≤ g → m * f + (s * f + w * k * (g - f)) ≡ w * (k * g)
look_apart m s w k g f both within =
    let parts : f + (g - f) ≡ g = omega (arith, within) in
    let left : (m + s) * f ≡ w * k * f = ap (λ (x : ℕ). x * f) both in
    let whole : w * k * (f + (g - f)) ≡ w * k * g = ap (λ (x : ℕ). w * k * x) parts in
    omega (arith, left, whole)

-- a part of what fits fits
pub part_of_fits : (m g f : ℕ) → m * g < 2 ^ 127 → m * (g - f) < 2 ^ 127
part_of_fits m g f fits =
    let within : g - f ≤ g = omega arith in
    omega (arith, mul-le-mul_left m within, fits)

-- a look in a period that has none scales the mass by its factor
pub look_scales : (p : Problem) (r : List ℕ) (a c t : ℕ) → t ≡ length r + 1 → mass_of p (looks_to t (r ++ a ∷ [])) c ≡ mass_of p (looks_to t r) c * factor_of p.sweep t a c
look_scales p r a c t next =
    let long : length (looks_to (length r) r) ≡ length r = length-looks_to (length r) r (le_refl (length r)) in
    let law = mass_of-look p (looks_to (length r) r) a c in
    rw (next, looks_to-look r a, looks_to-drift (length r) r (le_refl (length r))) (rw long at law)

-- the drift sends the masses after a prefix on
drift_sends : (p : Problem) (r : List ℕ) (t d : ℕ) → length r ≤ t → 1 ≤ t →
    sum_by (λ c. mass_of p (looks_to t r) c * part_of p.drift t c d) (range_with_len 0 p.cells) ≡ mass_of p (looks_to (t + 1) r) d
drift_sends p r t d late some = rw (looks_to-drift t r late) (drift_mass_at p (looks_to t r) t d (length-looks_to t r late) some)

module _ (p : Problem) (sound : IsProblem p) where
  -- masses after a prefix have room for looks up to the horizon
  pub scaled-le : (q : List ℕ) (t n c : ℕ) → 1 ≤ t → length q ≤ t → t ≤ p.horizon → length q + n ≤ p.horizon → c < p.cells →
      mass_of p (looks_to t q) c * p.sweep.denominator ^ n ≤ whole_weight p
  scaled-le q t n c some late last few here =
      let g = p.sweep.denominator in
      let d = p.drift.denominator in
      let left : ℕ = p.horizon - length q - n in
      let masses = masses_of p (looks_to t q) in
      let m = mass_of p (looks_to t q) c in
      let law : missed_weight p q ≡ sum masses * d ^ (p.horizon - t) * g ^ (p.horizon - length q) = missed_by_masses_hold p sound q t some late last in
      let part : m ≤ sum masses = omega (arith, sum-map (mass_of p (looks_to t q)) (range_with_len 0 p.cells), sum_by-range-part p.cells (mass_of p (looks_to t q)) c here) in
      let whole : g ^ (p.horizon - length q) ≡ g ^ n * g ^ left = ap (λ (k : ℕ). g ^ k) (omega (arith, few)) ∙ pow-add g n left in
      let steps : m * 1 ≤ sum masses * d ^ (p.horizon - t) = mul-le m 1 (sum masses) (d ^ (p.horizon - t)) part (one-le-pow (p.horizon - t) d (omega (arith, sound.drift.denominator))) in
      let looks : g ^ n * 1 ≤ g ^ n * g ^ left = mul-le (g ^ n) 1 (g ^ n) (g ^ left) (le_refl (g ^ n)) (one-le-pow left g (omega (arith, sound.sweep.denominator))) in
      let all = mul-le (m * 1) (g ^ n * 1) (sum masses * d ^ (p.horizon - t)) (g ^ n * g ^ left) steps looks in
      omega (arith, rw whole at law, all, nothing_is_cut_off p q sound)

  module _ (q r : List ℕ) (s : TakenState) (taken : IsTaken p q r s) where
    -- masses without the looks, scaled, are within the whole weight
    pub without-le : (c : ℕ) → c < p.cells → mass_of p (looks_to s.period q) c * s.scale ≤ whole_weight p
    without-le c here = rw taken.scale (scaled-le q s.period (length r - length q) c taken.first (omega (arith, taken.order, taken.late)) taken.last (omega (arith, taken.order, taken.late, taken.last)) here)

    -- what the drift makes of what was taken
    drifted : (d : ℕ) → sum_by (λ c. slice_index s.masses c * part_of p.drift s.period c d) (range_with_len 0 p.cells) + mass_of p (looks_to (s.period + 1) r) d
        ≡ mass_of p (looks_to (s.period + 1) q) d * s.scale
    drifted d =
        let all = range_with_len 0 p.cells in
        let part : ℕ → ℕ = λ c. part_of p.drift s.period c d in
        let with_looks : ℕ → ℕ = λ c. mass_of p (looks_to s.period r) c * part c in
        let took : ℕ → ℕ = λ c. slice_index s.masses c * part c in
        let without : ℕ → ℕ = λ c. mass_of p (looks_to s.period q) c * part c in
        let each : sum_by (λ c. with_looks c + took c) all ≡ sum_by (λ c. without c * s.scale) all =
        sum_by-range-same p.cells (λ c. with_looks c + took c) (λ c. without c * s.scale) (λ c here.
        let scaled : (mass_of p (looks_to s.period r) c + slice_index s.masses c) * part c ≡ mass_of p (looks_to s.period q) c * s.scale * part c = ap (λ (m : ℕ). m * part c) (taken.each c here) in
        omega (arith, scaled)) in
        let sums = sum_by-plus with_looks took all in
        let times = sum_by-times without s.scale all in
        rw (← drift_sends p r s.period d taken.late taken.first, ← drift_sends p q s.period d (omega (arith, taken.order, taken.late)) taken.first) (omega (arith, each, sums, times))

    -- as code sums it up
    drifted_at : (d : ℕ) → sum_by (λ c. slice_index s.masses c * part_of p.drift s.period c d) (range_with_len 0 (length s.masses)) + mass_of p (looks_to (s.period + 1) r) d
        ≡ mass_of p (looks_to (s.period + 1) q) d * s.scale
    drifted_at d = rw taken.cells (drifted d)

    pub drift_taken : (ys : List ℕ) → s.period < p.horizon → length ys ≡ length s.masses →
        ((d : ℕ) → d < length s.masses → slice_index ys d ≡ sum_by (λ c. slice_index s.masses c * part_of p.drift s.period c d) (range_with_len 0 (length s.masses))) →
        IsTaken p q r (record { period = s.period + 1; scale = s.scale; masses = ys })
    drift_taken ys more size each = record {
      order = taken.order;
      first = omega arith;
      late = omega (arith, taken.late);
      last = omega (arith, more);
      cells = size ∙ taken.cells;
      scale = taken.scale;
      each = λ d here. omega (arith, each d (omega (arith, taken.cells, here)), drifted_at d);
    }

    pub drift_taken_fits : s.period < p.horizon → (d : ℕ) → d < length s.masses →
        sum_by (λ c. slice_index s.masses c * part_of p.drift s.period c d) (range_with_len 0 (length s.masses)) < 2 ^ 127
    drift_taken_fits more d here =
        let within : mass_of p (looks_to (s.period + 1) q) d * s.scale ≤ whole_weight p = rw taken.scale (scaled-le q (s.period + 1) (length r - length q) d (omega arith) (omega (arith, taken.order, taken.late)) (omega (arith, more)) (omega (arith, taken.order, taken.late, taken.last)) (omega (arith, here, taken.cells))) in
        omega (arith, drifted_at d, within, whole_weight-fits p sound)

  module _ (q r : List ℕ) (b : BeliefState) (s : TakenState) (beside : IsBeside p q r b s) where
    -- a mass without the looks
    without : (c : ℕ) → c < p.cells → slice_index b.masses c ≡ mass_of p (looks_to s.period q) c
    without c here = mass_at p (looks_to s.period q) b beside.belief c here

    -- scaled it is what the looks left and took
    pub beside_is : (c : ℕ) → c < p.cells → mass_of p (looks_to s.period r) c + slice_index s.masses c ≡ slice_index b.masses c * s.scale
    beside_is c here = rw (without c here) (beside.taken.each c here)

    pub beside_fits : (c : ℕ) → c < p.cells → slice_index b.masses c * s.scale < 2 ^ 127
    beside_fits c here = rw (without c here) (omega (arith, without-le q r s beside.taken c here, whole_weight-fits p sound))

  module _ (q r : List ℕ) (a : ℕ) (b : BeliefState) (s : TakenState) (ready : IsReady p q r b s) where
    taken_then : IsTaken p q r s
    taken_then = ready.beside.taken

    abbrev pub factor : ℕ → ℕ
    factor c = factor_of p.sweep s.period a c

    -- the scale with a look more
    pub scale_more : s.scale * p.sweep.denominator ≡ p.sweep.denominator ^ (length (r ++ a ∷ []) - length q)
    scale_more =
        let more : length (r ++ a ∷ []) - length q ≡ suc (length r - length q) = omega (arith, length-append r (a ∷ []), taken_then.order) in
        rw (more, pow-suc p.sweep.denominator (length r - length q), taken_then.scale) (omega arith)

    -- there is room for what the look finds
    pub found_fits : (c : ℕ) → c < p.cells → slice_index b.masses c * s.scale * p.sweep.denominator < 2 ^ 127
    found_fits c here =
        let g = p.sweep.denominator in
        let n : ℕ = length r - length q in
        let most : mass_of p (looks_to s.period q) c * g ^ suc n ≤ whole_weight p = scaled-le q s.period (suc n) c taken_then.first (omega (arith, taken_then.order, taken_then.late)) taken_then.last (omega (arith, taken_then.order, ready.next, taken_then.last)) here in
        rw (mass_at p (looks_to s.period q) b ready.beside.belief c here, taken_then.scale) (omega (arith, rw pow-suc at most, whole_weight-fits p sound))

    -- the belief is in the same period
    pub ready_period : b.period ≡ s.period
    ready_period = omega (arith, length-looks_to s.period q (omega (arith, taken_then.order, taken_then.late)), ready.beside.belief.periods)

    -- there is room for the scale with the look
    pub scale_fits : s.scale * p.sweep.denominator < 2 ^ 127
    scale_fits =
        let g = p.sweep.denominator in
        let n : ℕ = length r - length q in
        let few : suc n ≤ p.horizon = omega (arith, taken_then.order, ready.next, taken_then.last) in
        let fits = part_fits p.total p.drift.denominator g p.horizon 0 (suc n) (omega (arith, sound.drift.denominator)) (omega (arith, sound.sweep.denominator)) sound.fits (omega arith) (omega (arith, few)) in
        let whole : 1 * g ^ suc n ≤ p.total * p.drift.denominator ^ 0 * g ^ suc n = mul-le 1 (g ^ suc n) (p.total * p.drift.denominator ^ 0) (g ^ suc n) (rw (pow-zero p.drift.denominator) (omega (arith, sound.total))) (le_refl (g ^ suc n)) in
        rw taken_then.scale (omega (arith, fits, whole, pow-suc g n))

    -- there is room for what it leaves of what was taken
    pub weaken_fits : (c : ℕ) → c < p.cells → slice_index s.masses c * factor c < 2 ^ 127
    weaken_fits c here =
        let within = mul-le (slice_index s.masses c) (factor c) (slice_index b.masses c * s.scale) p.sweep.denominator (omega (arith, beside_is q r b s ready.beside c here)) (factor_of-le p.sweep sound.sweep s.period a c) in
        omega (arith, within, found_fits c here)

    -- what it takes with what was taken is within that
    pub look_apart_at : (c : ℕ) → c < p.cells →
        mass_of p (looks_to s.period (r ++ a ∷ [])) c + (slice_index s.masses c * factor c + slice_index b.masses c * s.scale * (p.sweep.denominator - factor c))
        ≡ slice_index b.masses c * (s.scale * p.sweep.denominator)
    look_apart_at c here =
        rw (look_scales p r a c s.period ready.next)
        (look_apart (mass_of p (looks_to s.period r) c) (slice_index s.masses c) (slice_index b.masses c) s.scale p.sweep.denominator (factor c) (beside_is q r b s ready.beside c here) (factor_of-le p.sweep sound.sweep s.period a c))

    -- so there is room for it
    pub add_fits : (c : ℕ) → c < p.cells → slice_index s.masses c * factor c + slice_index b.masses c * s.scale * (p.sweep.denominator - factor c) < 2 ^ 127
    add_fits c here =
        let most = found_fits c here in
        omega (arith, look_apart_at c here, most)

    pub look_taken : (ys : List ℕ) → length ys ≡ p.cells →
        ((c : ℕ) → c < p.cells → slice_index ys c ≡ slice_index s.masses c * factor c + slice_index b.masses c * s.scale * (p.sweep.denominator - factor c)) →
        IsTaken p q (r ++ a ∷ []) (record { period = s.period; scale = s.scale * p.sweep.denominator; masses = ys })
    look_taken ys size each =
        let long : length (r ++ a ∷ []) ≡ length r + 1 = length-append r (a ∷ []) in
        record {
          order = omega (arith, long, taken_then.order);
          first = taken_then.first;
          late = omega (arith, long, ready.next);
          last = taken_then.last;
          cells = size;
          scale = scale_more;
          each = λ c here. rw (each c here, ← mass_at p (looks_to s.period q) b ready.beside.belief c here) (look_apart_at c here);
        }

  module _ (q r : List ℕ) (b : BeliefState) (s : TakenState) (late : IsLater p q r b s) where
    one_look : s.scale ≡ p.sweep.denominator
    one_look =
        let one : length r - length q ≡ suc 0 = omega (arith, late.one) in
        rw (late.beside.taken.scale, one, pow-suc p.sweep.denominator 0, pow-zero p.sweep.denominator) (omega arith)

    -- the masses without the look have room for it
    pub left_fits : (c : ℕ) → c < p.cells → slice_index b.masses c * p.sweep.denominator < 2 ^ 127
    left_fits c here = rw (← one_look) (beside_fits q r b s late.beside c here)

    -- it took a part of them
    pub left_part : (c : ℕ) → c < p.cells → slice_index s.masses c ≤ slice_index b.masses c * p.sweep.denominator
    left_part c here = rw (← one_look) (omega (arith, beside_is q r b s late.beside c here))

    -- and leaves the belief with it
    pub left_is : (ys : List ℕ) → length ys ≡ p.cells → ((c : ℕ) → c < p.cells → slice_index ys c ≡ slice_index b.masses c * p.sweep.denominator - slice_index s.masses c) →
        IsBelief p (looks_to s.period r) (record { period = b.period; looked = false; masses = ys })
    left_is ys size each =
        let before : ℕ = s.period - 1 in
        let next : before + 1 ≡ s.period = omega (arith, late.later) in
        let last : looks_to s.period r ≡ looks_to before r ++ None ∷ [] = ap (λ (t : ℕ). looks_to t r) (sym next) ∙ looks_to-drift before r (omega (arith, late.later)) in
        record {
          first = late.beside.belief.first;
          last = late.beside.belief.last;
          periods = omega (arith, length-looks_to s.period r late.beside.taken.late, length-looks_to s.period q (omega (arith, late.beside.taken.order, late.beside.taken.late)), late.beside.belief.periods);
          looked = rw last (sym (is_looked-last (looks_to before r) None));
          cells = size;
          masses = masses_are p (looks_to s.period r) ys size (λ c here. omega (arith, each c here, rw one_look at (beside_is q r b s late.beside c here)));
        }

  -- ahead of a look there is room for what it finds
  pub ahead_fits : (q : List ℕ) (b : BeliefState) → IsAhead p q b → (c : ℕ) → c < p.cells → slice_index b.masses c * p.sweep.denominator < 2 ^ 127
  ahead_fits q b ahead c here =
      let t = length q + 1 in
      let period : t ≡ b.period = omega (arith, length-looks_to t q (omega arith), ahead.periods) in
      let most : mass_of p (looks_to t q) c * p.sweep.denominator ^ suc 0 ≤ whole_weight p = scaled-le q t (suc 0) c (omega arith) (omega arith) (omega (arith, period, ahead.last)) (omega (arith, period, ahead.last)) here in
      let once : p.sweep.denominator ^ suc 0 ≡ p.sweep.denominator = rw (pow-suc p.sweep.denominator 0, pow-zero p.sweep.denominator) (omega arith) in
      rw (mass_at p (looks_to t q) b ahead c here) (omega (arith, rw once at most, whole_weight-fits p sound))

  -- what the look finds is what it takes there
  pub found_is : (q : List ℕ) (b : BeliefState) (a : ℕ) (xs : List ℕ) → IsAhead p q b → length xs ≡ p.cells →
      ((c : ℕ) → c < p.cells → slice_index xs c ≡ slice_index b.masses c * (p.sweep.denominator - factor_of p.sweep b.period a c)) →
      IsTaken p q (q ++ a ∷ []) (record { period = b.period; scale = p.sweep.denominator; masses = xs })
  found_is q b a xs ahead size each =
      let t = length q + 1 in
      let g = p.sweep.denominator in
      let long : length (q ++ a ∷ []) ≡ length q + 1 = length-append q (a ∷ []) in
      let period : t ≡ b.period = omega (arith, length-looks_to t q (omega arith), ahead.periods) in
      let one : length (q ++ a ∷ []) - length q ≡ suc 0 = omega (arith, long) in
      record {
        order = omega (arith, long);
        first = ahead.first;
        late = omega (arith, long, period);
        last = ahead.last;
        cells = size;
        scale = rw (one, pow-suc g 0, pow-zero g) (omega arith);
        each = λ c here.
            let mass : slice_index b.masses c ≡ mass_of p (looks_to b.period q) c = rw (← period) (mass_at p (looks_to t q) b ahead c here) in
            let parts = left_and_found g (factor_of p.sweep b.period a c) (mass_of p (looks_to b.period q) c) (factor_of-le p.sweep sound.sweep b.period a c) in
            rw (look_scales p q a c b.period (sym period)) (omega (arith, parts, rw mass at (each c here)));
      }

  module _ (q r : List ℕ) (s : TakenState) (taken : IsTaken p q r s) where
    -- what is taken in all cells
    total : sum s.masses ≡ sum_by (λ c. slice_index s.masses c) (range_with_len 0 p.cells)
    total =
        let listed : s.masses ≡ map (λ c. slice_index s.masses c) (range_with_len 0 p.cells) = fill_by_all (λ c. slice_index s.masses c) s.masses p.cells 0 taken.cells (λ c here. refl) in
        ap (λ (xs : List ℕ). sum xs) listed ∙ sum-map (λ c. slice_index s.masses c) (range_with_len 0 p.cells)

    totals : sum (masses_of p (looks_to s.period r)) + sum s.masses ≡ sum (masses_of p (looks_to s.period q)) * s.scale
    totals =
        let all = range_with_len 0 p.cells in
        let with_looks = mass_of p (looks_to s.period r) in
        let without = mass_of p (looks_to s.period q) in
        let took : ℕ → ℕ = λ c. slice_index s.masses c in
        let each : sum_by (λ c. with_looks c + took c) all ≡ sum_by (λ c. without c * s.scale) all = sum_by-range-same p.cells (λ c. with_looks c + took c) (λ c. without c * s.scale) (λ c here. taken.each c here) in
        omega (arith, total, sum-map with_looks all, ap (λ (x : ℕ). x * s.scale) (sum-map without all), each, sum_by-plus with_looks took all, sum_by-times without s.scale all)

    -- with the parts to come it is what the looks find of what was missed
    pub missed_less : missed_weight p r + sum s.masses * (p.drift.denominator ^ (p.horizon - s.period) * p.sweep.denominator ^ (p.horizon - length r)) ≡ missed_weight p q
    missed_less =
        let d' = p.drift.denominator ^ (p.horizon - s.period) in
        let g' = p.sweep.denominator ^ (p.horizon - length r) in
        let before = missed_by_masses_hold p sound q s.period taken.first (omega (arith, taken.order, taken.late)) taken.last in
        let after = missed_by_masses_hold p sound r s.period taken.first taken.late taken.last in
        let whole : p.sweep.denominator ^ (p.horizon - length q) ≡ s.scale * g' =
        ap (λ (k : ℕ). p.sweep.denominator ^ k) (omega (arith, taken.order, taken.late, taken.last)) ∙ pow-add p.sweep.denominator (length r - length q) (p.horizon - length r) ∙ ap (λ (k : ℕ). k * g') (sym taken.scale) in
        let scaled : (sum (masses_of p (looks_to s.period r)) + sum s.masses) * (d' * g') ≡ sum (masses_of p (looks_to s.period q)) * s.scale * (d' * g') = ap (λ (x : ℕ). x * (d' * g')) totals in
        omega (arith, rw whole at before, after, scaled)

    -- and that is what they add to the value
    pub value_more : value_of p r ≡ value_of p q + sum s.masses * (p.drift.denominator ^ (p.horizon - s.period) * p.sweep.denominator ^ (p.horizon - length r))
    value_more = omega (arith, missed_less, nothing_is_cut_off p q sound, nothing_is_cut_off p r sound)

    -- without the parts it is no more
    pub total-le : sum s.masses ≤ sum s.masses * (p.drift.denominator ^ (p.horizon - s.period) * p.sweep.denominator ^ (p.horizon - length r))
    total-le =
        let d' = p.drift.denominator ^ (p.horizon - s.period) in
        let g' = p.sweep.denominator ^ (p.horizon - length r) in
        let some : 1 ≤ d' * g' = some_parts p sound (p.horizon - s.period) (p.horizon - length r) in
        let more = mul-le-mul_left (sum s.masses) some in
        omega (arith, more)
