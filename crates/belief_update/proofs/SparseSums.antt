-- Sums of which many terms are 0.
use Rattle.std.proofs.Common.{ℕ, zero, suc, ◌+◌, ◌-◌, ◌<◌, ◌≤◌, ◌≡◌, sum_by, subst, refl, ◌∙◌, arith, add-zero}
use Rattle.std.specs.List.{range_with_len}
use Rattle.list_laws.proofs.Sums.{sum_by-range-suc, sum_by-range_more}

-- terms of 0 add nothing
sum_by-none_more : (f : ℕ → ℕ) (n m : ℕ) → ((k : ℕ) → n ≤ k → k < n + m → f k ≡ 0) → sum_by f (range_with_len 0 (n + m)) ≡ sum_by f (range_with_len 0 n)
sum_by-none_more f n zero none = rw (add-zero n) refl
sum_by-none_more f n (suc m) none =
    let more : n + suc m ≡ suc (n + m) = omega arith in
    rw (more, sum_by-range-suc f (n + m), sum_by-none_more f n m (λ k from to. none k from (omega (arith, to))), none (n + m) (omega arith) (omega arith)) (omega arith)

pub sum_by-none_to : (f : ℕ → ℕ) (n m : ℕ) → n ≤ m → ((k : ℕ) → n ≤ k → k < m → f k ≡ 0) → sum_by f (range_with_len 0 m) ≡ sum_by f (range_with_len 0 n)
sum_by-none_to f n m order none =
    let whole : n + (m - n) ≡ m = omega (arith, order) in
    subst (λ (k : ℕ). sum_by f (range_with_len 0 k) ≡ sum_by f (range_with_len 0 n)) whole (sum_by-none_more f n (m - n) (λ k from to. none k from (omega (arith, to, whole))))

-- one term, and none up to the next
pub sum_by-next : (f : ℕ → ℕ) (n m : ℕ) → n + 1 ≤ m → ((k : ℕ) → n + 1 ≤ k → k < m → f k ≡ 0) → sum_by f (range_with_len 0 m) ≡ sum_by f (range_with_len 0 n) + f n
sum_by-next f n m order none = sum_by-none_to f (n + 1) m order none ∙ sum_by-range_more f n
