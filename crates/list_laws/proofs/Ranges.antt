-- Ranges of numbers.
use Rattle.std.proofs.Common.{ℕ, zero, suc, ◌+◌, ◌<◌, ◌≤◌, ◌≡◌, ◌∙◌, [], ◌∷◌, ◌++◌, sym, refl, ap, arith, add-one, add-zero, All, Contains}
use Rattle.std.specs.List.{range_with_len}
use Rattle.std.specs.List.Sorted.{IsStrictlyIncreasing}
use Rattle.std.proofs.lemmas.List.FromFn.{length-range_with_len, get_or-range_with_len}
use Rattle.std.proofs.lemmas.List.Elements.{All-nil, All-cons}

-- the numbers from a on, with the last one apart
pub range_with_len-suc : (a n : ℕ) → range_with_len a (suc n) ≡ range_with_len a n ++ (a + n) ∷ []
range_with_len-suc a zero = rw add-zero refl
range_with_len-suc a (suc n) =
    let e : a + 1 + n ≡ a + suc n = omega arith in
    rw (range_with_len-suc (a + 1) n, e) refl

-- the same as code counts, from 0 on
pub range_more : (n : ℕ) → range_with_len 0 (n + 1) ≡ range_with_len 0 n ++ n ∷ []
range_more n = rw (add-one n, range_with_len-suc 0 n) (ap (λ m. range_with_len 0 n ++ m ∷ []) (omega arith))

-- the numbers of a range are below its end
pub range_below : (n : ℕ) → All (λ d. d < n) (range_with_len 0 n)
range_below n k d inside = let long = length-range_with_len 0 n in rw (get_or-range_with_len 0 n k d (omega (arith, long))) (omega (arith, long))

-- what holds of each number from a on and below a + n holds of all of the range
pub All-range : (P : ℕ → Type 0) (a n : ℕ) → ((q : ℕ) → a ≤ q → q < a + n → P q) → All P (range_with_len a n)
All-range P a zero each = All-nil P
All-range P a (suc n) each = All-cons P a (range_with_len (a + 1) n) (each a (omega arith) (omega arith)) (All-range P (a + 1) n (λ q from to. each q (omega (arith, from)) (omega (arith, to))))

-- each of its numbers stands in a range
pub Contains-range : (a n k : ℕ) → k < n → Contains (range_with_len a n) (a + k)
Contains-range a n k inside = (k, rw length-range_with_len inside, get_or-range_with_len a n k (a + k) inside)

-- from 0 on
pub Contains-range_from_0 : (n q : ℕ) → q < n → Contains (range_with_len 0 n) q
Contains-range_from_0 n q less = (q, rw length-range_with_len less, get_or-range_with_len 0 n q q less ∙ omega arith)

-- and what stands in it is one of them
pub Contains-range_cases : (a n x : ℕ) → Contains (range_with_len a n) x → (k : ℕ) × (k < n) × (x ≡ a + k)
Contains-range_cases a n x (k, inside, is) =
    let below : k < n = rw length-range_with_len at inside in
    (k, below, sym is ∙ get_or-range_with_len a n k x below)

-- a number of a range from 0 on is below its end
pub within_range : (n c : ℕ) → Contains (range_with_len 0 n) c → c < n
within_range n c there = let at = Contains-range_cases 0 n c there in omega (arith, at.1, at.2)

-- they rise
pub range_rises : (n : ℕ) → IsStrictlyIncreasing (range_with_len 0 n)
range_rises n k inside =
    let long = length-range_with_len 0 n in
    rw (get_or-range_with_len 0 n k 0 (omega arith), get_or-range_with_len 0 n (k + 1) 0 (omega (arith, long))) (omega arith)
