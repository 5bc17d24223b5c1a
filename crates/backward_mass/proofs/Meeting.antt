-- Forward masses meet backward masses: sums over tracks, by their cell in a period.
use Rattle.std.proofs.Common.{ℕ, zero, suc, ◌+◌, ◌*◌, ◌-◌, ◌≤◌, ◌≡◌, nat_lt, if◌then◌else◌, List, [], ◌∷◌, ◌++◌, length, slice_index, drop, take, sym, ap, ◌∙◌, arith, sum_by, length-append}
use Rattle.std.specs.List.{range_with_len}
use Rattle.sweep_table.specs.LookParts.{factor_of}
use Rattle.search_model.specs.Problem.{Problem}
use Rattle.search_model.specs.Tracks.{tracks, steps_product, weight_of, miss_of, miss_from, missed_weight}
use Rattle.search_model.specs.Bounds.{factors_along, cell_in, gain_of}
use Rattle.search_model.specs.Following.{after_of, forward_of}
use Rattle.list_laws.proofs.Sums.{sum_by-same, sum_by-times, sum_by-exchange, sum_by-filter}
use Rattle.search_model.proofs.TrackSums.{sum_tracks-suc, sum_tracks-split, sum_tracks-same}
use Rattle.backward_mass.specs.Masses.{backward_of}
use Rattle.backward_mass.specs.Laws.{MissedByCell, LookApart, MissedInEachPeriod, GainByCell}
use Rattle.search_model.proofs.Splits.{weight_of-split, miss_from-split, factors_along-last, cell_behind}

-- the tracks that stand in c right behind a front of n cells: what leads to c, times what follows it
through_cell : (p : Problem) (q : List ℕ) (h : ℕ → ℕ) (n m c : ℕ) → suc n ≤ length q →
    sum_by (λ x. sum_by (λ z. weight_of p (x ++ c ∷ [] ++ z) * miss_from p 1 q (x ++ c ∷ [] ++ z) * h (slice_index (x ++ c ∷ [] ++ z) n)) (tracks p.cells m)) (tracks p.cells n)
    ≡ sum_by (λ x. weight_of p (x ++ c ∷ []) * factors_along p 1 (take (suc n) q) (x ++ c ∷ [])) (tracks p.cells n) * h c * after_of p (suc n) c (drop (suc n) q) m
unfolding after_of
through_cell p q h n m c long =
    let before : List ℕ → ℕ = λ x. weight_of p (x ++ c ∷ []) * factors_along p 1 (take (suc n) q) (x ++ c ∷ []) in
    let after : List ℕ → ℕ = λ z. steps_product p (suc n) c z * miss_from p (suc n + 1) (drop (suc n) q) z in
    let all = sum_by after (tracks p.cells m) in
    sum_tracks-same p.cells n _ (λ x. before x * (h c * all)) (λ x same.
    let size : length (x ++ c ∷ []) ≡ suc n = length-append x (c ∷ []) ∙ omega (arith, same) in
    let period : length x + 1 ≡ suc n = omega (arith, same) in
    let next : 1 + suc n ≡ suc n + 1 = omega arith in
    sum_by-same _ (λ z. after z * (before x * h c)) (tracks p.cells m) (λ z.
    rw (weight_of-split p x c z, miss_from-split p 1 q (x ++ c ∷ []) z (omega (arith, size, long)), cell_behind n x c z same, size, period, next) (omega arith))
    ∙ sum_by-times after (before x * h c) (tracks p.cells m)
    ∙ omega arith)
    ∙ sum_by-times before (h c * all) (tracks p.cells n)
    ∙ omega arith

pub missed_by_cell : MissedByCell
missed_by_cell p q h zero some long within = absurd (omega (arith, some))
missed_by_cell p q h (suc n) some long within =
    let m = p.horizon - suc n in
    let whole : p.horizon ≡ suc n + m = omega (arith, within) in
    let first : suc n - 1 ≡ n = omega arith in
    let cells = range_with_len 0 p.cells in
    let f : List ℕ → ℕ = λ x. weight_of p x * miss_from p 1 q x * h (slice_index x n) in
    rw first
    (ap (λ (k : ℕ). sum_by f (tracks p.cells k)) whole
    ∙ sum_tracks-split p.cells (suc n) m f
    ∙ sum_tracks-suc (λ x. sum_by (λ z. f (x ++ z)) (tracks p.cells m)) p.cells n
    ∙ sum_by-exchange (λ x c. sum_by (λ z. f (x ++ c ∷ [] ++ z)) (tracks p.cells m)) (tracks p.cells n) cells
    ∙ sum_by-same _ _ cells (λ c. through_cell p q h n m c long))

pub look_apart : LookApart
look_apart p q zero c some long = absurd (omega (arith, some))
look_apart p q (suc n) c some long =
    let first : suc n - 1 ≡ n = omega arith in
    let period : 1 + n ≡ suc n = omega arith in
    let before : List ℕ → ℕ = λ x. weight_of p (x ++ c ∷ []) * factors_along p 1 (take n q) (x ++ c ∷ []) in
    let factor = factor_of p.sweep (suc n) (slice_index q n) c in
    rw first
    (sum_tracks-same p.cells n _ (λ x. before x * factor) (λ x same. rw (factors_along-last p n 1 q x c (omega (arith, long)) same, period) (omega arith))
    ∙ sum_by-times before factor (tracks p.cells n))

pub missed_in_each_period : MissedInEachPeriod
unfolding missed_weight
missed_in_each_period p q t some long within =
    let cells = range_with_len 0 p.cells in
    sum_by-same _ (λ x. weight_of p x * miss_of p q x * 1) (tracks p.cells p.horizon) (λ x. omega arith)
    ∙ missed_by_cell p q (λ _. 1) t some long within
    ∙ sum_by-same _ (λ c. forward_of p (take t q) t c * backward_of p q t c) cells (λ c. omega arith)

pub gain_by_cell : GainByCell
unfolding gain_of
gain_by_cell p rate q t a some long within =
    let cells = range_with_len 0 p.cells in
    let finds : ℕ → ℕ = λ c. if nat_lt (factor_of p.sweep t a c) p.sweep.denominator then 1 else 0 in
    ap (λ (s : ℕ). (p.sweep.denominator - rate) * s)
    (sum_by-filter (λ x. nat_lt (factor_of p.sweep t a (cell_in x t)) p.sweep.denominator) (λ x. weight_of p x * miss_of p q x) (tracks p.cells p.horizon)
    ∙ missed_by_cell p q finds t some long within
    ∙ sum_by-same _ (λ c. forward_of p (take t q) t c * backward_of p q t c * finds c) cells (λ c. omega arith)
    ∙ sym (sum_by-filter (λ c. nat_lt (factor_of p.sweep t a c) p.sweep.denominator) (λ c. forward_of p (take t q) t c * backward_of p q t c) cells))
