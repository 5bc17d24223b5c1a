-- What looks at one rate miss is convex in their number.
use Rattle.std.proofs.Common.{◌≡◌, ℕ, zero, suc, ◌+◌, ◌-◌, ◌*◌, ◌^◌, ◌<◌, ◌≤◌, ◌⊎◌, inl, inr, subst, arith, nat_lt, ltb-true, ltb-false, if◌then◌else◌, mul-le-mul_right, pow-suc, pow-add}
use Rattle.std.proofs.Math.Nat.{pow-zero, pow-le-pow_left}
use Rattle.std.proofs.lemmas.Bool.{cases_lt, cond_both}
use Rattle.bound_tree.specs.BoundLaws.{missed_by, LooksAreConvex}

gap_step : (r d j a b : ℕ) → (r + d) * a ≤ (r + d) * b + j * (d * a) → (r + d) * (a * (r + d)) ≤ (r + d) * (b * r) + suc j * (d * (a * (r + d)))
gap_step r d j a b h = omega (arith, mul-le-mul_right r h)

rise_step : (r d j a b : ℕ) → b ≤ a → (r + d) * b + j * (d * b) ≤ (r + d) * a → (r + d) * (b * r) + suc j * (d * (b * r)) ≤ (r + d) * (a * (r + d))
rise_step r d j a b l h = omega (arith, mul-le-mul_right r h, mul-le-mul_right (r * d) l)

-- j looks at rate r, out of r + d, take off at most j times what one look takes off of the whole
power_gap : (r d j : ℕ) → (r + d) * (r + d) ^ j ≤ (r + d) * r ^ j + j * (d * (r + d) ^ j)
power_gap r d zero = rw (pow-zero (r + d), pow-zero r) (omega arith)
power_gap r d (suc j) = rw (pow-suc (r + d) j, pow-suc r j) (gap_step r d j ((r + d) ^ j) (r ^ j) (power_gap r d j))

-- and at least j times what one more takes off of what is left
power_rise : (r d j : ℕ) → (r + d) * r ^ j + j * (d * r ^ j) ≤ (r + d) * (r + d) ^ j
power_rise r d zero = rw (pow-zero (r + d), pow-zero r) (omega arith)
power_rise r d (suc j) = rw (pow-suc (r + d) j, pow-suc r j) (rise_step r d j ((r + d) ^ j) (r ^ j) (pow-le-pow_left (let l : r ≤ r + d = omega arith in l) j) (power_rise r d j))

-- from m looks to j more, where k are left
more : (r d m j k : ℕ) → (r + d) * (r ^ m * (r + d) ^ (j + k)) + m * (d * (r ^ m * (r + d) ^ (j + k))) ≤ (r + d) * (r ^ (m + j) * (r + d) ^ k) + (m + j) * (d * (r ^ m * (r + d) ^ (j + k)))
more r d m j k =
    rw (pow-add (r + d) j k, pow-add r m j)
    (omega (arith, mul-le-mul_right (r ^ m * (r + d) ^ k) (power_gap r d j)))

-- to n looks from j more
fewer : (r d n j k : ℕ) → (r + d) * (r ^ (n + j) * (r + d) ^ k) + (n + j) * (d * (r ^ (n + j) * (r + d) ^ k)) ≤ (r + d) * (r ^ n * (r + d) ^ (j + k)) + n * (d * (r ^ (n + j) * (r + d) ^ k))
fewer r d n j k =
    rw (pow-add (r + d) j k, pow-add r n j)
    (omega (arith, mul-le-mul_right (r ^ n * (r + d) ^ k) (power_rise r d j)))

by_cases : (r d t n m : ℕ) → n ≤ t → m ≤ t → (m < n) ⊎ (n ≤ m) →
    (r + d) * missed_by (r + d) r t m + m * (d * missed_by (r + d) r t m) ≤ (r + d) * missed_by (r + d) r t n + n * (d * missed_by (r + d) r t m)
by_cases r d t n m hn hm (inl l) =
    let en : m + (n - m) ≡ n = omega arith in
    let ek : (n - m) + (t - n) ≡ t - m = omega arith in
    rw en at (rw ek at (more r d m (n - m) (t - n)))
by_cases r d t n m hn hm (inr l) =
    let em : n + (m - n) ≡ m = omega arith in
    let ek : (m - n) + (t - m) ≡ t - n = omega arith in
    rw em at (rw ek at (fewer r d n (m - n) (t - m)))

pub looks_are_convex : LooksAreConvex
looks_are_convex g r t n m hr hn hm =
    let e : r + (g - r) ≡ g = omega arith in
    let P : ℕ → Type 0 = λ z. z * missed_by z r t m + m * ((g - r) * missed_by z r t m) ≤ z * missed_by z r t n + n * ((g - r) * missed_by z r t m) in
    subst P e (by_cases r (g - r) t n m hn hm (cases_lt m n))

-- one look more, which misses the rate where it covers, and else the denominator
pub one_look : (g r f l n m : ℕ) → r ≤ g → (f ≡ r) ⊎ (f ≡ g) → n ≤ l → m ≡ missed_by g r l n →
    ((if nat_lt f g then 1 else 0) + n ≤ suc l) × (f * m ≡ missed_by g r (suc l) ((if nat_lt f g then 1 else 0) + n))
one_look g r f l n m hr either hn is =
    cond_both (nat_lt f g) 1 0 (λ b. (b + n ≤ suc l) × (f * m ≡ missed_by g r (suc l) (b + n)))
    (λ covers.
    let below = ltb-true f g covers in
    let rate : f ≡ r = elim either [ inl e ↦ e | inr e ↦ absurd (omega (arith, below, e)) ] in
    let left : suc l - (1 + n) ≡ l - n = omega arith in
    let first : 1 + n ≡ suc n = omega arith in
    (omega arith, rw (left, first, pow-suc r n, is, rate) (omega arith)))
    (λ past.
    let above = ltb-false f g past in
    let all : f ≡ g = elim either [ inl e ↦ omega (arith, above, e, hr) | inr e ↦ e ] in
    let left : suc l - (0 + n) ≡ suc (l - n) = omega arith in
    let none : 0 + n ≡ n = omega arith in
    (omega arith, rw (left, none, pow-suc g (l - n), is, all) (omega arith)))
