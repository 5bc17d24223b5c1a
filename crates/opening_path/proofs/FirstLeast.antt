-- The first of the least among some places, one after another.
use Rattle.std.proofs.Common.{ℕ, ◌+◌, ◌≤◌, ◌<◌, ◌≡◌, List, get_or, subst, arith, below_more}

-- among the first i elements of a list, the one at b is the first whose number is the least
pub record IsFirstLeast (f : ℕ → ℕ) (xs : List ℕ) (i b : ℕ) : Type 0 where
  pub place : b < i
  pub least : (k : ℕ) → k < i → f (get_or xs b 0) ≤ f (get_or xs k 0)
  pub before : (k : ℕ) → k < b → f (get_or xs b 0) < f (get_or xs k 0)

-- of one element it is that one
pub first_least-one : (f : ℕ → ℕ) (xs : List ℕ) → IsFirstLeast f xs 1 0
first_least-one f xs = record {
  place = omega arith;
  least = λ k h. let here : 0 ≡ k = omega arith in subst (λ j. f (get_or xs 0 0) ≤ f (get_or xs j 0)) here (omega arith);
  before = λ k h. absurd (omega arith);
}

-- a further element with a number that isn't less leaves it
pub first_least-kept : (f : ℕ → ℕ) (xs : List ℕ) (i b : ℕ) → IsFirstLeast f xs i b → f (get_or xs b 0) ≤ f (get_or xs i 0) → IsFirstLeast f xs (i + 1) b
first_least-kept f xs i b so_far here = record {
  place = omega (arith, so_far.place);
  least = below_more _ _ so_far.least here;
  before = so_far.before;
}

-- a further element with a smaller number takes its place
pub first_least-taken : (f : ℕ → ℕ) (xs : List ℕ) (i b : ℕ) → IsFirstLeast f xs i b → f (get_or xs i 0) < f (get_or xs b 0) → IsFirstLeast f xs (i + 1) i
first_least-taken f xs i b so_far here =
    let before : (k : ℕ) → k < i → f (get_or xs i 0) < f (get_or xs k 0) = λ k h. omega (arith, so_far.least k h) in
    record {
      place = omega arith;
      least = below_more _ _ (λ k h. omega (arith, before k h)) (omega arith);
      before = before;
    }
