-- The masses of all cells together.
use Rattle.std.proofs.Common.{ℕ, zero, suc, ◌+◌, ◌*◌, ◌^◌, ◌<◌, ◌≤◌, ◌≡◌, List, [], ◌∷◌, ◌++◌, Option, Some, None, length, refl, ap, ◌∙◌, arith, sum_by}
use Rattle.std.specs.List.{range_with_len}
use Rattle.std.proofs.Math.Nat.{pow-zero, pow-suc, mul-le-mul_left, mul-le-mul_right}
use Rattle.drift_chain.specs.DriftRows.{part_of}
use Rattle.sweep_table.proofs.Factors.{factor_of-le}
use Rattle.exact_parts.proofs.Widths.{part_fits}
use Rattle.search_model.specs.Problem.{Problem, IsProblem}
use Rattle.list_laws.proofs.Sums.{sum_by-same, sum_by-times, sum_by-exchange, sum_by-range-same, sum_by-range-le}
use Rattle.search_model.proofs.DriftSums.{steps_total, first_total}
use Rattle.belief_update.specs.Masses.{mass_of}
use Rattle.belief_update.proofs.MassSteps.{mass_of-look, mass_of-drift, mass_of-start}

-- the sum of all masses after looks
pub total_after : Problem → List (Option ℕ) → ℕ
total_after p looks = sum_by (mass_of p looks) (range_with_len 0 p.cells)

pub total_after-is : (p : Problem) (looks : List (Option ℕ)) → total_after p looks ≡ sum_by (mass_of p looks) (range_with_len 0 p.cells)
unfolding total_after
total_after-is p looks = refl

-- a step multiplies the sum by the denominator
total_after-drift : (p : Problem) → IsProblem p → (looks : List (Option ℕ)) (look : Option ℕ) → total_after p (looks ++ look ∷ [] ++ None ∷ []) ≡ total_after p (looks ++ look ∷ []) * p.drift.denominator
unfolding total_after
total_after-drift p sound looks look =
    let all = range_with_len 0 p.cells in
    let t = length looks + 1 in
    let m : ℕ → ℕ = mass_of p (looks ++ look ∷ []) in
    sum_by-same _ _ all (λ d. mass_of-drift p looks look d)
    ∙ sum_by-exchange (λ d c. m c * part_of p.drift t c d) all all
    ∙ sum_by-range-same p.cells _ (λ c. m c * p.drift.denominator) (λ c lt.
    sum_by-same _ (λ d. part_of p.drift t c d * m c) all (λ d. omega arith)
    ∙ sum_by-times (part_of p.drift t c) (m c) all
    ∙ rw (steps_total p sound t c lt) (omega arith))
    ∙ sum_by-times m p.drift.denominator all

-- a look makes it at most the denominator's multiple
total_after-look : (p : Problem) → IsProblem p → (looks : List (Option ℕ)) (a : ℕ) → total_after p (looks ++ Some a ∷ []) ≤ total_after p (looks ++ None ∷ []) * p.sweep.denominator
unfolding total_after
total_after-look p sound looks a =
    let m : ℕ → ℕ = mass_of p (looks ++ None ∷ []) in
    rw (← sum_by-times m p.sweep.denominator (range_with_len 0 p.cells))
    (sum_by-range-le p.cells _ _ (λ c lt. rw (mass_of-look p looks a c) (mul-le-mul_left (m c) (factor_of-le p.sweep sound.sweep (length looks + 1) a c))))

-- a list of n + 1 looks is one of n and a last one
pub split_last : (n : ℕ) (looks : List (Option ℕ)) → length looks ≡ suc n → (front : List (Option ℕ)) × (look : Option ℕ) × (length front ≡ n) × (looks ≡ front ++ look ∷ [])
split_last n [] e = absurd (omega arith)
split_last zero (x ∷ []) e = ([], x, refl, refl)
split_last zero (x ∷ y ∷ xs) e = absurd (omega arith)
split_last (suc n) (x ∷ xs) e =
    let rest = split_last n xs (omega arith) in
    (x ∷ rest.0, rest.1, ap suc rest.2, ap (λ (ys : List (Option ℕ)). x ∷ ys) rest.3)

-- with or without a look in the last period
total_after-any-le : (p : Problem) → IsProblem p → (n : ℕ) (looks : List (Option ℕ)) (look : Option ℕ) →
    total_after p (looks ++ None ∷ []) ≤ p.total * p.drift.denominator ^ n * p.sweep.denominator ^ n →
    total_after p (looks ++ look ∷ []) ≤ p.total * p.drift.denominator ^ n * p.sweep.denominator ^ suc n
total_after-any-le p sound n looks None h =
    let g_pos = sound.sweep.denominator.0 in
    rw (pow-suc p.sweep.denominator n) (grind (arith, mul-le-mul_left))
total_after-any-le p sound n looks (Some a) h =
    let look = total_after-look p sound looks a in
    let more = mul-le-mul_right p.sweep.denominator h in
    rw (pow-suc p.sweep.denominator n) (omega (arith, look, more))

-- with no look in the last of n + 1 periods
pub total_after-none-le : (p : Problem) → IsProblem p → (n : ℕ) (looks : List (Option ℕ)) → length looks ≡ n →
    total_after p (looks ++ None ∷ []) ≤ p.total * p.drift.denominator ^ n * p.sweep.denominator ^ n
unfolding total_after
total_after-none-le p sound zero [] e =
    rw (sum_by-same _ _ (range_with_len 0 p.cells) (mass_of-start p), first_total p sound, pow-zero p.drift.denominator, pow-zero p.sweep.denominator) (omega arith)
total_after-none-le p sound zero (look ∷ looks) e = absurd (omega arith)
total_after-none-le p sound (suc n) looks e =
    let parts = split_last n looks e in
    let before = total_after-any-le p sound n parts.0 parts.1 (total_after-none-le p sound n parts.0 parts.2) in
    let more = mul-le-mul_right p.drift.denominator before in
    rw (parts.3, total_after-drift p sound parts.0 parts.1, pow-suc p.drift.denominator n) (omega (arith, more))

-- all masses together stay below 2 ^ 127, from the width of the scenario alone
pub total_after-fits : (p : Problem) → IsProblem p → (looks : List (Option ℕ)) (look : Option ℕ) → length looks < p.horizon → total_after p (looks ++ look ∷ []) < 2 ^ 127
total_after-fits p sound looks look h =
    let n = length looks in
    let within = total_after-any-le p sound n looks look (total_after-none-le p sound n looks refl) in
    let fits = part_fits p.total p.drift.denominator p.sweep.denominator p.horizon n (suc n) (omega (arith, sound.drift.denominator)) (omega (arith, sound.sweep.denominator)) sound.fits (omega (arith, h)) (omega (arith, h)) in
    omega (arith, within, fits)
