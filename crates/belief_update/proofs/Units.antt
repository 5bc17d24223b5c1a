-- How much of a unit is in all cells together, step after step.
use Rattle.std.proofs.Common.{ℕ, zero, suc, ◌*◌, ◌^◌, ◌<◌, ◌≤◌, ◌≡◌, ◌==◌, true, false, if◌then◌else◌, refl, ◌∙◌, arith, sum_by, inl, inr}
use Rattle.std.specs.List.{range_with_len}
use Rattle.std.proofs.Math.Nat.{pow-zero, pow-suc, mul-le-mul_right}
use Rattle.std.proofs.lemmas.Bool.{cases_eq, eq-eqb, ne_eqb}
use Rattle.drift_chain.specs.DriftRows.{part_of}
use Rattle.exact_parts.proofs.Widths.{drifts_fit}
use Rattle.search_model.specs.Problem.{Problem, IsProblem}
use Rattle.search_model.proofs.DriftSums.{steps_total}
use Rattle.list_laws.proofs.Sums.{sum_by-same, sum_by-times, sum_by-exchange, sum_by-range-suc, sum_by-range-same, sum_by-range-part}
use Rattle.belief_update.specs.Flows.{unit_of}

-- a unit is in its own cell at first
pub unit_of-first : (p : Problem) (a d : ℕ) → unit_of p a 0 d ≡ (if d == a then 1 else 0)
unfolding unit_of
unit_of-first p a d = refl

-- a step sends on what each cell has
pub unit_of-step : (p : Problem) (a n d : ℕ) → unit_of p a (suc n) d ≡ sum_by (λ c. unit_of p a n c * part_of p.drift 1 c d) (range_with_len 0 p.cells)
unfolding unit_of
unit_of-step p a n d = refl

-- before its cell there is none of it
first_before : (a n : ℕ) → n ≤ a → sum_by (λ d. if d == a then 1 else 0) (range_with_len 0 n) ≡ 0
first_before a zero h = refl
first_before a (suc n) h =
    let apart : (n == a) ≡ false = ne_eqb n a (λ e. omega arith) in
    rw (sum_by-range-suc (λ d. if d == a then 1 else 0) n, first_before a n (omega arith), apart) refl

-- it is in one cell at most
first_once : (a n : ℕ) → sum_by (λ d. if d == a then 1 else 0) (range_with_len 0 n) ≤ 1
first_once a zero = omega arith
first_once a (suc n) =
    rw (sum_by-range-suc (λ d. if d == a then 1 else 0) n)
    (elim (cases_eq n a) [
      | inl same ↦ let at : (n == a) ≡ true = eq-eqb n a same in rw (at, first_before a n (omega (arith, same))) (omega arith)
      | inr other ↦ let apart : (n == a) ≡ false = ne_eqb n a other in rw apart (omega (arith, first_once a n))
    ])

module _ (p : Problem) (sound : IsProblem p) where
  -- a step multiplies the sum by the denominator
  units_step : (a n : ℕ) → sum_by (unit_of p a (suc n)) (range_with_len 0 p.cells) ≡ sum_by (unit_of p a n) (range_with_len 0 p.cells) * p.drift.denominator
  units_step a n =
      let all = range_with_len 0 p.cells in
      let unit : ℕ → ℕ = unit_of p a n in
      sum_by-same _ _ all (λ d. unit_of-step p a n d)
      ∙ sum_by-exchange (λ d c. unit c * part_of p.drift 1 c d) all all
      ∙ sum_by-range-same p.cells _ (λ c. unit c * p.drift.denominator) (λ c here.
      sum_by-same _ (λ d. part_of p.drift 1 c d * unit c) all (λ d. omega arith)
      ∙ sum_by-times (part_of p.drift 1 c) (unit c) all
      ∙ rw (steps_total p sound 1 c here) (omega arith))
      ∙ sum_by-times unit p.drift.denominator all

  -- all cells together have no more than the denominator for each step
  units_total-le : (a n : ℕ) → sum_by (unit_of p a n) (range_with_len 0 p.cells) ≤ p.drift.denominator ^ n
  units_total-le a zero = rw (sum_by-same _ _ (range_with_len 0 p.cells) (unit_of-first p a), pow-zero p.drift.denominator) (first_once a p.cells)
  units_total-le a (suc n) =
      let more = mul-le-mul_right p.drift.denominator (units_total-le a n) in
      rw (units_step a n, pow-suc p.drift.denominator n) (omega (arith, more))

  -- a cell has no more of it
  pub unit_of-le : (a n d : ℕ) → d < p.cells → unit_of p a n d ≤ p.drift.denominator ^ n
  unit_of-le a n d here = omega (arith, sum_by-range-part p.cells (unit_of p a n) d here, units_total-le a n)

  -- it fits up to the horizon
  pub unit_of-fits : (a n d : ℕ) → n < p.horizon → d < p.cells → unit_of p a n d < 2 ^ 127
  unit_of-fits a n d early here =
      let fits = drifts_fit p.total p.drift.denominator p.sweep.denominator p.horizon n sound.total.0 (omega (arith, sound.drift.denominator)) (omega (arith, sound.sweep.denominator)) sound.fits (omega (arith, early)) in
      omega (arith, unit_of-le a n d here, fits)
