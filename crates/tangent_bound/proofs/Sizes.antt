-- What fits: the periods of a problem and a few more, times the denominator of the looks, times the whole weight.
use Rattle.std.proofs.Common.{ℕ, suc, ◌+◌, ◌*◌, ◌-◌, ◌^◌, ◌<◌, ◌≤◌, ◌≡◌, arith}
use Rattle.std.proofs.Math.Nat.{pow-suc, le_refl, mul-le-mul_left}
use Rattle.exact_parts.proofs.Widths.{scaled_part_fits}
use Rattle.search_model.specs.Problem.{Problem, IsProblem}
use Rattle.search_model.specs.Tracks.{whole_weight}

-- the most that a gain, and the denominator times a value, can be
abbrev pub most_of : Problem → ℕ
most_of p = p.sweep.denominator * whole_weight p

pub most_fits : (p : Problem) → IsProblem p → (k : ℕ) → k ≤ p.horizon + 10 → k * most_of p < 2 ^ 127
most_fits p sound k few =
    let fits = scaled_part_fits p.total p.drift.denominator p.sweep.denominator p.horizon k (p.horizon - 1) (p.horizon + 1) (omega (arith, sound.drift.denominator)) (omega (arith, sound.sweep.denominator)) sound.fits few (le_refl (p.horizon - 1)) (le_refl (p.horizon + 1)) in
    let more : p.horizon + 1 ≡ suc p.horizon = omega arith in
    omega (arith, rw (more, pow-suc p.sweep.denominator p.horizon) at fits)

-- a value up to the whole weight fits in parts of the look denominator, too
pub finer_fits : (p : Problem) (v : ℕ) → IsProblem p → v ≤ whole_weight p → p.sweep.denominator * v < 2 ^ 128
finer_fits p v sound part =
    let most = most_fits p sound 1 (omega arith) in
    omega (arith, most, mul-le-mul_left p.sweep.denominator part)
