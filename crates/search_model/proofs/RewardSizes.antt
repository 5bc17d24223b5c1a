-- Rewards are within the whole weight, and so many of them fit.
use Rattle.std.proofs.Common.{ℕ, suc, ◌+◌, ◌*◌, ◌-◌, ◌^◌, ◌<◌, ◌≤◌, ◌≡◌, List, [], ◌∷◌, length, ap, ◌∙◌, arith, pow-suc, mul-le-mul_left}
use Rattle.std.proofs.Math.Nat.{pow-zero, one-le-pow}
use Rattle.std.proofs.lemmas.Nat.{mul-le, pow-add}
use Rattle.exact_parts.proofs.Widths.{scaled_part_fits}
use Rattle.sweep_table.specs.LookParts.{factor_of}
use Rattle.sweep_table.proofs.Factors.{factor_of-le}
use Rattle.search_model.specs.Problem.{Problem, IsProblem}
use Rattle.search_model.specs.Tracks.{tracks, weight_of, whole_weight}
use Rattle.search_model.specs.Bounds.{factors_along, cell_in, reward_of}
use Rattle.list_laws.proofs.Sums.{sum_by-times, sum_by-within}
use Rattle.search_model.proofs.Totals.{weights_sum}

-- the factors of a prefix are within its denominators
factors_along-le : (p : Problem) → IsProblem p → (t : ℕ) (q x : List ℕ) → factors_along p t q x ≤ p.sweep.denominator ^ length q
unfolding factors_along
factors_along-le p sound t [] x = rw (pow-zero p.sweep.denominator) (omega arith)
factors_along-le p sound t (a ∷ q) [] = one-le-pow (length (a ∷ q)) p.sweep.denominator (omega (arith, sound.sweep.denominator))
factors_along-le p sound t (a ∷ q) (c ∷ x) =
    let here = factor_of-le p.sweep sound.sweep t a c in
    let rest = factors_along-le p sound (t + 1) q x in
    rw (pow-suc p.sweep.denominator (length q)) (omega (arith, mul-le _ _ _ _ here rest))

-- no reward is above the whole weight
pub reward-within : (p : Problem) → IsProblem p → (q : List ℕ) (t a : ℕ) → length q < p.horizon → reward_of p q t a ≤ whole_weight p
unfolding reward_of
reward-within p sound q t a short =
    let all = tracks p.cells p.horizon in
    let g = p.sweep.denominator in
    let k = length q in
    let n = p.horizon - k - 1 in
    let parts : g ^ p.horizon ≡ g ^ k * (g ^ n * g) =
    ap (λ (m : ℕ). g ^ m) (let e : p.horizon ≡ k + suc n = omega (arith, short) in e) ∙ pow-add g k (suc n) ∙ rw (pow-suc g n) in
    let each = sum_by-within (λ x. weight_of p x * factors_along p 1 q x * (g - factor_of p.sweep t a (cell_in x t)) * g ^ n) (λ x. weight_of p x * g ^ p.horizon) all (λ x _.
    let front = mul-le _ _ _ _ (factors_along-le p sound 1 q x) (let le : g - factor_of p.sweep t a (cell_in x t) ≤ g = omega arith in le) in
    let scaled = mul-le-mul_left (weight_of p x * g ^ n) front in
    rw parts (omega (arith, scaled))) in
    let whole = sum_by-times (weight_of p) (g ^ p.horizon) all in
    let weights = ap (λ (s : ℕ). s * g ^ p.horizon) (weights_sum p sound) in
    omega (arith, each, whole, weights)

-- so many whole weights, and one more, fit
pub weights-fit : (p : Problem) → IsProblem p → (n : ℕ) → n ≤ p.horizon → n * whole_weight p + whole_weight p < 2 ^ 127
weights-fit p sound n few =
    let fits = scaled_part_fits p.total p.drift.denominator p.sweep.denominator p.horizon (n + 1) (p.horizon - 1) p.horizon (omega (arith, sound.drift.denominator)) (omega (arith, sound.sweep.denominator)) sound.fits (omega (arith, few)) (omega arith) (omega arith) in
    omega (arith, fits)
