-- The weights of all tracks, what prefixes miss of them at most, and that the partial sums of both fit 127 bits.
use Rattle.std.proofs.Common.{ℕ, zero, suc, ◌+◌, ◌*◌, ◌-◌, ◌^◌, ◌<◌, ◌≤◌, ◌≡◌, List, drop, take, refl, sym, ap, ◌∙◌, arith, sum_by}
use Rattle.std.specs.List.{range_with_len}
use Rattle.std.proofs.lemmas.List.Sums.{sum_by-take-le}
use Rattle.std.proofs.Math.Nat.{pow-zero, pow-suc, le_refl, one-le-pow, one-le-mul}
use Rattle.drift_chain.specs.DriftRows.{row_of, part_of}
use Rattle.exact_parts.proofs.Widths.{le-times, part_fits, weight_fits}
use Rattle.search_model.specs.Problem.{Problem, first_of, IsProblem}
use Rattle.search_model.specs.Tracks.{tracks, steps_product, weight_of, missed_weight, whole_weight}
use Rattle.search_model.specs.Laws.{WeightsSum, NothingCutOff}
use Rattle.list_laws.proofs.Sums.{sum_by-same, sum_by-times, sum_by-range-same}
use Rattle.search_model.proofs.DriftSums.{steps_total, first_total}
use Rattle.search_model.proofs.TrackSums.{one_track, sum_tracks-cons}
use Rattle.search_model.proofs.After.{after_of-by_row, after_of-le, missed_weight-by_first, missed_part-le}
use Rattle.search_model.specs.Following.{look_factor, after_of}

-- the drift parts of all that may follow a cell in m more periods
pub steps_sum : (p : Problem) → IsProblem p → (m t c : ℕ) → c < p.cells → sum_by (steps_product p t c) (tracks p.cells m) ≡ p.drift.denominator ^ m
unfolding steps_product
steps_sum p sound zero t c here = one_track (steps_product p t c) p.cells ∙ sym (pow-zero p.drift.denominator)
steps_sum p sound (suc m) t c here =
    let most = p.drift.denominator ^ m in
    sum_tracks-cons p.cells m (steps_product p t c)
    ∙ sum_by-range-same p.cells _ (λ d. part_of p.drift t c d * most) (λ d lt.
    sum_by-same _ (λ z. steps_product p (t + 1) d z * part_of p.drift t c d) (tracks p.cells m) (λ z. omega arith)
    ∙ sum_by-times (steps_product p (t + 1) d) (part_of p.drift t c d) (tracks p.cells m)
    ∙ rw (steps_sum p sound m (t + 1) d lt) (omega arith))
    ∙ sum_by-times (part_of p.drift t c) most (range_with_len 0 p.cells)
    ∙ rw (steps_total p sound t c here, pow-suc p.drift.denominator m) (omega arith)

-- the weights of all tracks of n + 1 cells
pub weights_sum_to : (p : Problem) → IsProblem p → (n : ℕ) → sum_by (weight_of p) (tracks p.cells (suc n)) ≡ p.total * p.drift.denominator ^ n
unfolding weight_of
weights_sum_to p sound n =
    let most = p.drift.denominator ^ n in
    sum_tracks-cons p.cells n (weight_of p)
    ∙ sum_by-range-same p.cells _ (λ c. first_of p c * most) (λ c lt.
    sum_by-same _ (λ z. steps_product p 1 c z * first_of p c) (tracks p.cells n) (λ z. omega arith)
    ∙ sum_by-times (steps_product p 1 c) (first_of p c) (tracks p.cells n)
    ∙ rw (steps_sum p sound n 1 c lt) (omega arith))
    ∙ sum_by-times (first_of p) most (range_with_len 0 p.cells)
    ∙ rw (first_total p sound) refl

pub weights_sum : WeightsSum
weights_sum p sound =
    let whole : p.horizon ≡ suc (p.horizon - 1) = omega (arith, sound.horizon) in
    ap (λ (m : ℕ). sum_by (weight_of p) (tracks p.cells m)) whole ∙ weights_sum_to p sound (p.horizon - 1)

pub nothing_is_cut_off : NothingCutOff
nothing_is_cut_off p q sound = rw (missed_weight-by_first p q (omega (arith, sound.horizon))) (missed_part-le p sound q p.cells (le_refl p.cells))

-- the drift parts of some steps and the look parts of some periods fit
pub powers_fit : (p : Problem) → IsProblem p → (i j : ℕ) → i ≤ p.horizon - 1 → j ≤ p.horizon + 1 → p.drift.denominator ^ i * p.sweep.denominator ^ j < 2 ^ 127
powers_fit p sound i j steps looks =
    let powers = p.drift.denominator ^ i * p.sweep.denominator ^ j in
    let fits = part_fits p.total p.drift.denominator p.sweep.denominator p.horizon i j (omega (arith, sound.drift.denominator)) (omega (arith, sound.sweep.denominator)) sound.fits steps looks in
    omega (arith, fits, le-times powers p.total (omega (arith, sound.total)))

-- the whole weight fits
pub whole_weight-fits : (p : Problem) → IsProblem p → whole_weight p < 2 ^ 127
whole_weight-fits p sound = weight_fits p.total p.drift.denominator p.sweep.denominator p.horizon (omega (arith, sound.drift.denominator)) (omega (arith, sound.sweep.denominator)) sound.fits

-- what may follow a cell within the horizon fits
pub after_of-fits : (p : Problem) → IsProblem p → (t c : ℕ) → c < p.cells → (q : List ℕ) (m : ℕ) → m ≤ p.horizon - 1 → after_of p t c q m < 2 ^ 127
after_of-fits p sound t c here q m short = omega (arith, after_of-le p sound m t c here q, powers_fit p sound m m short (omega (arith, short)))

-- the sum over the first i entries of the cell's row fits
pub after_entries-fit : (p : Problem) → IsProblem p → (t c : ℕ) → c < p.cells → (q : List ℕ) (m : ℕ) → suc m ≤ p.horizon - 1 → (i : ℕ) →
    sum_by (λ entry. entry.part * (look_factor p (t + 1) q entry.cell * after_of p (t + 1) entry.cell (drop 1 q) m)) (take i (row_of p.drift t c)) < 2 ^ 127
after_entries-fit p sound t c here q m short i =
    omega (arith, sum_by-take-le (λ entry. entry.part * (look_factor p (t + 1) q entry.cell * after_of p (t + 1) entry.cell (drop 1 q) m)) (row_of p.drift t c) i, after_of-by_row p sound t c here q m, after_of-fits p sound t c here q (suc m) short)

-- what a prefix misses of the tracks that begin in the first k cells fits
pub missed_cells-fit : (p : Problem) → IsProblem p → (q : List ℕ) (k : ℕ) → k ≤ p.cells →
    sum_by (λ c. first_of p c * look_factor p 1 q c * after_of p 1 c (drop 1 q) (p.horizon - 1)) (range_with_len 0 k) < 2 ^ 127
missed_cells-fit p sound q k few = omega (arith, missed_part-le p sound q k few, whole_weight-fits p sound)

-- what a prefix misses fits
pub missed_weight-fits : (p : Problem) → IsProblem p → (q : List ℕ) → missed_weight p q < 2 ^ 127
missed_weight-fits p sound q = omega (arith, nothing_is_cut_off p q sound, whole_weight-fits p sound)

-- there are some parts to come
pub some_parts : (p : Problem) → IsProblem p → (i j : ℕ) → 1 ≤ p.drift.denominator ^ i * p.sweep.denominator ^ j
some_parts p sound i j =
    let drifts = one-le-pow i p.drift.denominator (omega (arith, sound.drift.denominator)) in
    let looks = one-le-pow j p.sweep.denominator (omega (arith, sound.sweep.denominator)) in
    one-le-mul drifts looks
