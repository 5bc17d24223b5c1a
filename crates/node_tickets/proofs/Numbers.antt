-- How many of the numbers from 0 on are below a limit, and how many are at it or above it.
use Rattle.std.proofs.Common.{◌≡◌, ℕ, zero, suc, ◌+◌, ◌<◌, ◌≤◌, min, List, [], ◌∷◌, ◌++◌, length, refl, ap, ◌∙◌, arith, All, Bool, true, false, cond, ltb, leb}
use Rattle.std.specs.List.{range_with_len, count_by}
use Rattle.std.proofs.lemmas.Bool.{lt-ltb, le-ltb, le-leb, lt-leb}
use Rattle.std.proofs.lemmas.List.Elements.{All-head, All-tail}
use Rattle.std.proofs.lemmas.List.FromFn.{length-range_with_len}
use Rattle.std.proofs.lemmas.List.Sums.{sum_by-cons, sum_by-append, sum_by_push}
use native.Mathlib.Decide.{dec_le}
use mathlib.Core.Logic.{dite}
use Rattle.node_tickets.specs.Rule.{high_of}
use Rattle.list_laws.proofs.Ranges.{range_more}

-- how many of some numbers are below a limit
abbrev pub low_of : ℕ → List ℕ → ℕ
low_of limit numbers = count_by (λ n. ltb n limit) numbers

-- each number is either
pub low_high : (limit : ℕ) (xs : List ℕ) → low_of limit xs + high_of limit xs ≡ length xs
low_high limit [] = refl
low_high limit (x ∷ xs) =
    let l = sum_by-cons (λ y. cond (ltb y limit) 1 0) x xs in
    let h = sum_by-cons (λ y. cond (leb limit y) 1 0) x xs in
    let e = either (dec_le limit x) in
    omega (arith, l, h, e, low_high limit xs)
  where
    either : Dec (limit ≤ x) → cond (ltb x limit) 1 0 + cond (leb limit x) 1 0 ≡ 1
    either (yes high) = ap (λ (b : Bool). cond b 1 0 + cond (leb limit x) 1 0) (le-ltb x limit high) ∙ ap (λ (b : Bool). 0 + cond b 1 0) (le-leb limit x high)
    either (no low) = ap (λ (b : Bool). cond b 1 0 + cond (leb limit x) 1 0) (lt-ltb x limit (omega arith)) ∙ ap (λ (b : Bool). 1 + cond b 1 0) (lt-leb limit x (omega arith))

-- one number more
pub low_push_yes : (limit : ℕ) (xs : List ℕ) (n : ℕ) → n < limit → low_of limit (xs ++ n ∷ []) ≡ low_of limit xs + 1
low_push_yes limit xs n low = sum_by_push (λ x. cond (ltb x limit) 1 0) xs n ∙ ap (λ (b : Bool). low_of limit xs + cond b 1 0) (lt-ltb n limit low)

pub low_push_no : (limit : ℕ) (xs : List ℕ) (n : ℕ) → limit ≤ n → low_of limit (xs ++ n ∷ []) ≡ low_of limit xs
low_push_no limit xs n high = sum_by_push (λ x. cond (ltb x limit) 1 0) xs n ∙ ap (λ (b : Bool). low_of limit xs + cond b 1 0) (le-ltb n limit high) ∙ (omega arith)

pub high_append : (limit : ℕ) (xs ys : List ℕ) → high_of limit (xs ++ ys) ≡ high_of limit xs + high_of limit ys
high_append limit xs ys = sum_by-append (λ x. cond (leb limit x) 1 0) xs ys

pub high_push : (limit : ℕ) (xs : List ℕ) (n : ℕ) → high_of limit (xs ++ n ∷ []) ≤ high_of limit xs + 1
high_push limit xs n = omega (arith, sum_by_push (λ x. cond (leb limit x) 1 0) xs n, at_most_one (leb limit n))
  where
    at_most_one : (b : Bool) → cond b 1 0 ≤ 1
    at_most_one true = omega arith
    at_most_one false = omega arith

-- numbers that are all below the limit have none that is high
pub high_none : (limit : ℕ) (xs : List ℕ) → All (λ n. n < limit) xs → high_of limit xs ≡ 0
high_none limit [] h = refl
high_none limit (x ∷ xs) h =
    let s = sum_by-cons (λ y. cond (leb limit y) 1 0) x xs in
    let e : cond {A = ℕ} (leb limit x) 1 0 ≡ 0 = ap (λ (b : Bool). cond b 1 0) (lt-leb limit x (All-head (λ n. n < limit) x xs h)) in
    omega (arith, s, e, high_none limit xs (All-tail (λ n. n < limit) x xs h))

-- a range has as many numbers below a limit as the lesser of both
pub low_range : (limit n : ℕ) → low_of limit (range_with_len 0 n) ≡ min limit n
low_range limit zero = omega arith
low_range limit (suc n) = dite (dec_le limit n)
    (λ high. ap (low_of limit) longer ∙ low_push_no limit (range_with_len 0 n) n high ∙ (let r = low_range limit n in omega arith))
    (λ low. ap (low_of limit) longer ∙ low_push_yes limit (range_with_len 0 n) n (omega arith) ∙ (let r = low_range limit n in omega arith))
  where
    longer : range_with_len 0 (suc n) ≡ range_with_len 0 n ++ n ∷ []
    longer = (let e : suc n ≡ n + 1 = omega arith in ap (range_with_len 0) e) ∙ range_more n

-- so it is as long as the limit at most, and the high numbers that it has
pub range_length : (limit n : ℕ) → n ≤ limit + high_of limit (range_with_len 0 n)
range_length limit n = omega (arith, low_high limit (range_with_len 0 n), low_range limit n, length-range_with_len 0 n)
