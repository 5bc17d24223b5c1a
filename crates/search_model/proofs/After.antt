-- What may follow a cell: sums of drift parts times look factors, and the missed weight by the first cell.
use Rattle.std.proofs.Common.{ℕ, zero, suc, ◌+◌, ◌*◌, ◌-◌, ◌^◌, ◌<◌, ◌≤◌, ◌≡◌, List, [], ◌∷◌, drop, refl, ap, ◌∙◌, arith, sum_by, All}
use Rattle.std.specs.List.{range_with_len}
use Rattle.std.proofs.lemmas.Nat.{mul-le}
use Rattle.std.proofs.Math.Nat.{pow-zero, pow-suc, le_refl, mul-le-mul_left}
use Rattle.drift_chain.specs.DriftRows.{row_of, part_of}
use Rattle.sweep_table.proofs.Factors.{factor_of-le}
use Rattle.search_model.specs.Problem.{Problem, first_of, IsProblem}
use Rattle.search_model.specs.Tracks.{tracks, steps_product, weight_of, miss_from, missed_weight, whole_weight}
use Rattle.search_model.specs.Following.{look_factor, after_of}
use Rattle.list_laws.proofs.Sums.{sum_by-same, sum_by-times, sum_by-range-same, sum_by-range-le, sum_by-range-fewer}
use Rattle.search_model.proofs.DriftSums.{row_by_cells, steps_total, first_total}
use Rattle.search_model.proofs.TrackSums.{one_track, sum_tracks-cons}

-- a miss is the first look's factor times the miss of the rest, also where the prefix is used up
pub miss_from-cons : (p : Problem) (t : ℕ) (q : List ℕ) (c : ℕ) (x : List ℕ) → miss_from p t q (c ∷ x) ≡ look_factor p t q c * miss_from p (t + 1) (drop 1 q) x
unfolding miss_from
miss_from-cons p t [] c x = refl
miss_from-cons p t (a ∷ q) c x = refl

-- no look factor exceeds the denominator
pub look_factor-le : (p : Problem) → IsProblem p → (t : ℕ) (q : List ℕ) (c : ℕ) → look_factor p t q c ≤ p.sweep.denominator
look_factor-le p sound t [] c = le_refl p.sweep.denominator
look_factor-le p sound t (a ∷ q) c = factor_of-le p.sweep sound.sweep t a c

-- nothing follows in no more periods
pub after_of-zero : (p : Problem) (t c : ℕ) (q : List ℕ) → after_of p t c q 0 ≡ 1
unfolding after_of steps_product miss_from
after_of-zero p t c q = one_track (λ z. steps_product p t c z * miss_from p (t + 1) q z) p.cells

-- one step, and what follows it
pub after_of-cons : (p : Problem) (t c : ℕ) (q : List ℕ) (m : ℕ) →
    after_of p t c q (suc m) ≡ sum_by (λ d. part_of p.drift t c d * look_factor p (t + 1) q d * after_of p (t + 1) d (drop 1 q) m) (range_with_len 0 p.cells)
unfolding after_of steps_product
after_of-cons p t c q m =
    let all = range_with_len 0 p.cells in
    let rest : ℕ → List ℕ → ℕ = λ d z. steps_product p (t + 1) d z * miss_from p (t + 1 + 1) (drop 1 q) z in
    sum_tracks-cons p.cells m (λ z. steps_product p t c z * miss_from p (t + 1) q z)
    ∙ sum_by-same _ _ all (λ d.
    let k : ℕ = part_of p.drift t c d * look_factor p (t + 1) q d in
    sum_by-same _ (λ z. rest d z * k) (tracks p.cells m) (λ z. rw (miss_from-cons p (t + 1) q d z) (omega arith))
    ∙ sum_by-times (rest d) k (tracks p.cells m)
    ∙ omega arith)

-- the weight that a prefix's looks miss, by the target's first cell
pub missed_weight-by_first : (p : Problem) (q : List ℕ) → 1 ≤ p.horizon →
    missed_weight p q ≡ sum_by (λ c. first_of p c * look_factor p 1 q c * after_of p 1 c (drop 1 q) (p.horizon - 1)) (range_with_len 0 p.cells)
unfolding missed_weight weight_of after_of
missed_weight-by_first p q some =
    let all = range_with_len 0 p.cells in
    let n = p.horizon - 1 in
    let whole : p.horizon ≡ suc n = omega (arith, some) in
    let rest : ℕ → List ℕ → ℕ = λ c z. steps_product p 1 c z * miss_from p (1 + 1) (drop 1 q) z in
    ap (λ (m : ℕ). sum_by (λ x. weight_of p x * miss_from p 1 q x) (tracks p.cells m)) whole
    ∙ sum_tracks-cons p.cells n (λ x. weight_of p x * miss_from p 1 q x)
    ∙ sum_by-same _ _ all (λ c.
    let k : ℕ = first_of p c * look_factor p 1 q c in
    sum_by-same _ (λ z. rest c z * k) (tracks p.cells n) (λ z. rw (miss_from-cons p 1 q c z) (omega arith))
    ∙ sum_by-times (rest c) k (tracks p.cells n)
    ∙ omega arith)

-- what may follow a cell is at most the denominators' powers
pub after_of-le : (p : Problem) → IsProblem p → (m t c : ℕ) → c < p.cells → (q : List ℕ) → after_of p t c q m ≤ p.drift.denominator ^ m * p.sweep.denominator ^ m
after_of-le p sound zero t c here q = rw (after_of-zero p t c q, pow-zero p.drift.denominator, pow-zero p.sweep.denominator) (omega arith)
after_of-le p sound (suc m) t c here q =
    let most = p.sweep.denominator * (p.drift.denominator ^ m * p.sweep.denominator ^ m) in
    rw (after_of-cons p t c q m, pow-suc p.drift.denominator m, pow-suc p.sweep.denominator m)
    (let terms = sum_by-range-le p.cells (λ d. part_of p.drift t c d * look_factor p (t + 1) q d * after_of p (t + 1) d (drop 1 q) m) (λ d. part_of p.drift t c d * most) (λ d lt.
    let rest = mul-le _ _ _ _ (look_factor-le p sound (t + 1) q d) (after_of-le p sound m (t + 1) d lt (drop 1 q)) in
    omega (arith, mul-le-mul_left (part_of p.drift t c d) rest)) in
    let all = sum_by-times (part_of p.drift t c) most (range_with_len 0 p.cells) in
    omega (arith, terms, all, ap (λ (s : ℕ). s * most) (steps_total p sound t c here)))

-- past the prefix it is exactly these powers
pub after_of-none : (p : Problem) → IsProblem p → (m t c : ℕ) → c < p.cells → after_of p t c [] m ≡ p.drift.denominator ^ m * p.sweep.denominator ^ m
after_of-none p sound zero t c here = rw (after_of-zero p t c [], pow-zero p.drift.denominator, pow-zero p.sweep.denominator) (omega arith)
after_of-none p sound (suc m) t c here =
    let most = p.sweep.denominator * (p.drift.denominator ^ m * p.sweep.denominator ^ m) in
    after_of-cons p t c [] m
    ∙ sum_by-range-same p.cells _ (λ d. part_of p.drift t c d * most) (λ d lt. rw (after_of-none p sound m (t + 1) d lt) (omega arith))
    ∙ sum_by-times (part_of p.drift t c) most (range_with_len 0 p.cells)
    ∙ rw (steps_total p sound t c here, pow-suc p.drift.denominator m, pow-suc p.sweep.denominator m) (omega arith)

-- what a prefix misses of the tracks that begin in the first k cells is at most the whole weight
pub missed_part-le : (p : Problem) → IsProblem p → (q : List ℕ) (k : ℕ) → k ≤ p.cells →
    sum_by (λ c. first_of p c * look_factor p 1 q c * after_of p 1 c (drop 1 q) (p.horizon - 1)) (range_with_len 0 k) ≤ whole_weight p
missed_part-le p sound q k few =
    let n = p.horizon - 1 in
    let whole : p.horizon ≡ suc n = omega (arith, sound.horizon) in
    let most = p.sweep.denominator * (p.drift.denominator ^ n * p.sweep.denominator ^ n) in
    let f : ℕ → ℕ = λ c. first_of p c * look_factor p 1 q c * after_of p 1 c (drop 1 q) n in
    let terms = sum_by-range-le p.cells f (λ c. first_of p c * most) (λ c lt.
    let rest = mul-le _ _ _ _ (look_factor-le p sound 1 q c) (after_of-le p sound n 1 c lt (drop 1 q)) in
    omega (arith, mul-le-mul_left (first_of p c) rest)) in
    let all = sum_by-times (first_of p) most (range_with_len 0 p.cells) in
    let looks : p.sweep.denominator ^ p.horizon ≡ p.sweep.denominator ^ n * p.sweep.denominator = ap (λ (m : ℕ). p.sweep.denominator ^ m) whole ∙ pow-suc p.sweep.denominator n in
    rw looks (omega (arith, sum_by-range-fewer p.cells f k few, terms, all, ap (λ (s : ℕ). s * most) (first_total p sound)))

-- one step by the entries of the cell's row, and what follows it
pub after_of-by_row : (p : Problem) → IsProblem p → (t c : ℕ) → c < p.cells → (q : List ℕ) (m : ℕ) →
    after_of p t c q (suc m) ≡ sum_by (λ entry. entry.part * (look_factor p (t + 1) q entry.cell * after_of p (t + 1) entry.cell (drop 1 q) m)) (row_of p.drift t c)
after_of-by_row p sound t c here q m =
    let next : ℕ → ℕ = λ d. look_factor p (t + 1) q d * after_of p (t + 1) d (drop 1 q) m in
    let within : All (λ entry. entry.cell < p.cells) (row_of p.drift t c) = rw (← sound.drift_cells) (sound.drift.each t c (omega (arith, here, sound.drift_cells))).within in
    after_of-cons p t c q m
    ∙ sum_by-same _ (λ d. part_of p.drift t c d * next d) (range_with_len 0 p.cells) (λ d. omega arith)
    ∙ row_by_cells p.cells next (row_of p.drift t c) within
