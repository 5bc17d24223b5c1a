-- What fits: every product that occurs below a fitting width.
use Rattle.std.proofs.Common.{ℕ, suc, ◌+◌, ◌-◌, ◌*◌, ◌^◌, ◌<◌, ◌≤◌, ◌≡◌, arith}
use Rattle.std.proofs.lemmas.Nat.{mul-le}
use Rattle.std.proofs.Math.Nat.{pow-suc, pow-zero, pow-le-pow_right, le_refl, mul-le-mul_left}
use Rattle.exact_parts.specs.Width.{Fits}

pub le-times : (m k : ℕ) → 1 ≤ k → m ≤ m * k
le-times m k h = grind (arith, mul-le-mul_left)

-- up to t + 10 times the first parts, the drift parts of some steps and the look parts of some periods, together
pub scaled_part_fits : (a d g t k i j : ℕ) → 1 ≤ d → 1 ≤ g → Fits a d g t → k ≤ t + 10 → i ≤ t - 1 → j ≤ t + 1 → k * (a * d ^ i * g ^ j) < 2 ^ 127
scaled_part_fits a d g t k i j d_pos g_pos fits few steps looks =
    let first : k * a ≤ (t + 10) * a = mul-le k a (t + 10) a few (le_refl a) in
    let drifts : d ^ i ≤ d ^ (t - 1) = pow-le-pow_right d_pos steps in
    let seen : g ^ j ≤ g ^ (t + 1) = pow-le-pow_right g_pos looks in
    let whole = mul-le _ _ _ _ (mul-le _ _ _ _ first drifts) seen in
    omega (arith, whole, fits)

-- the first parts, the drift parts of some steps and the look parts of some periods
pub part_fits : (a d g t i j : ℕ) → 1 ≤ d → 1 ≤ g → Fits a d g t → i ≤ t - 1 → j ≤ t + 1 → a * d ^ i * g ^ j < 2 ^ 127
part_fits a d g t i j d_pos g_pos fits steps looks = omega (arith, scaled_part_fits a d g t 1 i j d_pos g_pos fits (omega arith) steps looks)

-- the weight of all tracks
pub weight_fits : (a d g t : ℕ) → 1 ≤ d → 1 ≤ g → Fits a d g t → a * d ^ (t - 1) * g ^ t < 2 ^ 127
weight_fits a d g t d_pos g_pos fits = part_fits a d g t (t - 1) t d_pos g_pos fits (le_refl (t - 1)) (omega arith)

-- ten times the weight of all tracks, which a division digit by digit needs
pub ten_weights_fit : (a d g t : ℕ) → 1 ≤ d → 1 ≤ g → Fits a d g t → 10 * (a * d ^ (t - 1) * g ^ t) < 2 ^ 127
ten_weights_fit a d g t d_pos g_pos fits = scaled_part_fits a d g t 10 (t - 1) t d_pos g_pos fits (omega arith) (le_refl (t - 1)) (omega arith)

-- the first parts with the drift parts of some steps
pub tracks_fit : (a d g t i : ℕ) → 1 ≤ d → 1 ≤ g → Fits a d g t → i ≤ t - 1 → a * d ^ i < 2 ^ 127
tracks_fit a d g t i d_pos g_pos fits steps = omega (arith, rw (pow-zero g) at (part_fits a d g t i 0 d_pos g_pos fits steps (omega arith)))

-- the drift parts of some steps
pub drifts_fit : (a d g t i : ℕ) → 1 ≤ a → 1 ≤ d → 1 ≤ g → Fits a d g t → i ≤ t - 1 → d ^ i < 2 ^ 127
drifts_fit a d g t i a_pos d_pos g_pos fits steps = omega (arith, le-times (d ^ i) a a_pos, tracks_fit a d g t i d_pos g_pos fits steps)

-- the look parts of some periods
pub looks_fit : (a d g t j : ℕ) → 1 ≤ a → 1 ≤ d → 1 ≤ g → Fits a d g t → j ≤ t + 1 → g ^ j < 2 ^ 127
looks_fit a d g t j a_pos d_pos g_pos fits looks = omega (arith, le-times (g ^ j) a a_pos, rw (pow-zero d) at (part_fits a d g t 0 j d_pos g_pos fits (omega arith) looks))

-- a product that is too wide stays so
pub wide : (m base : ℕ) (i n : ℕ) → 1 ≤ base → i < n → 2 ^ 127 ≤ m * base ^ i * base → 2 ^ 127 ≤ m * base ^ n
wide m base i n pos lt h =
    let more : base ^ suc i ≤ base ^ n = pow-le-pow_right pos (omega arith) in
    let scaled = mul-le-mul_left m more in
    let step = pow-suc base i in
    let same : m * base ^ suc i ≡ m * base ^ i * base = rw step (omega arith) in
    omega (arith, scaled, same, h)

pub ruleset weight_steps = (weight_fits, tracks_fit, drifts_fit, looks_fit)
