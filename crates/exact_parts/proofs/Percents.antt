-- A share in percent, digit by digit.
use Rattle.std.proofs.Common.{◌≡◌, ℕ, ◌≤◌, ◌<◌, ◌+◌, ◌*◌, ◌/◌, ◌%◌, ◌^◌, List, [], ◌∷◌, ◌++◌, length, take, drop, set, refl, ◌∙◌, ap, arith, add-one, length-append}
use Rattle.std.proofs.lemmas.List.{length-set, length-take-le}
use Rattle.std.specs.Fmt.{decimal, digits}
use Rattle.std.proofs.Math.Nat.{suc-add, pow-suc, div-add-mod, mod-lt, le_of_mul-le-mul_right, mul-le-mul_right}
use Rattle.std.proofs.lemmas.Fmt.{length-decimal-le_wide}
use Rattle.exact_parts.specs.Percent.{three_digits, WorkedPercents}

-- The quotient and the rest of v of w after some digits, p being 10 to the power of their number.
pub record Divided (v w p n rest : ℕ) : Type 0 where
  pub whole : v * p ≡ n * w + rest
  pub below : rest < w
  pub small : n ≤ p

-- no more than p of w fit
quotient_small : (v w p n rest : ℕ) → v ≤ w → 1 ≤ w → v * p ≡ n * w + rest → n ≤ p
quotient_small v w p n rest part some whole =
    let most : v * p ≤ w * p = mul-le-mul_right p part in
    let fits : n * w ≤ p * w = omega (arith, most, whole) in
    le_of_mul-le-mul_right fits some

divided : (v w p n rest : ℕ) → v ≤ w → 1 ≤ w → v * p ≡ n * w + rest → rest < w → Divided v w p n rest
divided v w p n rest part some whole below = record { whole = whole; below = below; small = quotient_small v w p n rest part some whole }

-- one digit more
pub divided_more : (v w k n rest : ℕ) → v ≤ w → 1 ≤ w → Divided v w (10 ^ k) n rest → Divided v w (10 ^ (k + 1)) (n * 10 + rest * 10 / w) (rest * 10 % w)
divided_more v w k n rest part some so_far =
    let split = div-add-mod (rest * 10) w in
    let was = so_far.whole in
    let now : v * (10 ^ k * 10) ≡ (n * 10 + rest * 10 / w) * w + rest * 10 % w = omega (arith, split, was) in
    rw (add-one k, pow-suc 10 k) (divided v w (10 ^ k * 10) _ _ part some now (mod-lt (rest * 10) some))

-- Behind the first places of a list, four are written.
pub four_written : (xs rest : List ℕ) (p q r s : ℕ) → 4 ≤ length rest →
    take (length xs + 4) (set (set (set (set (xs ++ rest) (length xs) p) (length xs + 1) q) (length xs + 2) r) (length xs + 3) s) ≡ xs ++ p ∷ q ∷ r ∷ s ∷ []
four_written [] [] p q r s long = absurd (omega arith)
four_written [] (a ∷ []) p q r s long = absurd (omega arith)
four_written [] (a ∷ b ∷ []) p q r s long = absurd (omega arith)
four_written [] (a ∷ b ∷ c ∷ []) p q r s long = absurd (omega arith)
four_written [] (a ∷ b ∷ c ∷ d ∷ rest) p q r s long = refl
four_written (x ∷ xs) rest p q r s long = rw (suc-add (length xs) 4, suc-add (length xs) 1, suc-add (length xs) 2, suc-add (length xs) 3) (ap (λ ys. x ∷ ys) (four_written xs rest p q r s long))

-- the whole percent has three digits at most
pub percent_long : (n : ℕ) → n ≤ 100000 → length (decimal (n / 1000)) ≤ 3
percent_long n le = length-decimal-le_wide 3 (n / 1000) (omega arith) (omega arith) (omega arith)

-- the point and the thousandths are written behind the whole percent
abbrev pub written : List ℕ → ℕ → ℕ → List ℕ
written to at n = set (set (set (set to at 46) (at + 1) (48 + n % 1000 / 100)) (at + 2) (48 + n % 1000 / 10 % 10)) (at + 3) (48 + n % 1000 % 10)

pub text_written : (to old : List ℕ) (at n : ℕ) → length to ≡ 39 → to ≡ decimal (n / 1000) ++ drop at old → at ≡ length (decimal (n / 1000)) → n ≤ 100000 →
    take (at + 4) (written to at n) ≡ decimal (n / 1000) ++ 46 ∷ three_digits (n % 1000)
text_written to old at n long text is most =
    let all = ap length text ∙ length-append (decimal (n / 1000)) (drop at old) in
    let rest : 4 ≤ length (drop at old) = omega (arith, all, long, percent_long n most) in
    rw (text, is) (four_written (decimal (n / 1000)) (drop (length (decimal (n / 1000))) old) 46 (48 + n % 1000 / 100) (48 + n % 1000 / 10 % 10) (48 + n % 1000 % 10) (rw is at rest))

pub worked_percents : WorkedPercents
unfolding digits
worked_percents = record { two_of_three = refl; one_of_sixteen = refl; all = refl; none = refl }

pub ruleset percent_steps = (percent_long, length-set, length-take-le)
