-- Sums over lists and ranges.
use Rattle.std.proofs.Common.{ℕ, zero, suc, ◌+◌, ◌*◌, ◌<◌, ◌≤◌, ◌≡◌, ◌==◌, ◌∙◌, Bool, true, false, cond, if◌then◌else◌, List, [], ◌∷◌, map, refl, sym, arith, sum_by, filter, All, Contains, add-one, zero-add, inl, inr}
use Rattle.std.specs.List.{flat_map, range_with_len}
use Rattle.std.proofs.lemmas.Bool.{cases_eq, eq-eqb, ne_eqb}
use Rattle.std.proofs.lemmas.List.Elements.{All-head, All-tail}
use Rattle.std.proofs.lemmas.List.Sums.{sum_by-cons, sum_by-append, sum_by_push}
use Rattle.list_laws.proofs.Members.{Contains-head, Contains-tail}
use Rattle.list_laws.proofs.Ranges.{range_with_len-suc}

-- equal terms have equal sums
pub sum_by-same : {X : Type 0} (f g : X → ℕ) (xs : List X) → ((x : X) → f x ≡ g x) → sum_by f xs ≡ sum_by g xs
sum_by-same f g [] h = refl
sum_by-same f g (x ∷ xs) h = rw (sum_by-cons f x xs, sum_by-cons g x xs, h x, sum_by-same f g xs h) refl

-- a sum over a list of changed elements
pub sum_by-map : {X Y : Type 0} (f : Y → ℕ) (g : X → Y) (xs : List X) → sum_by f (map g xs) ≡ sum_by (λ x. f (g x)) xs
sum_by-map f g [] = refl
sum_by-map f g (x ∷ xs) = rw (sum_by-cons f (g x) (map g xs), sum_by-cons (λ x. f (g x)) x xs, sum_by-map f g xs) refl

-- a sum over joined lists is a sum of sums
pub sum_by-flat_map : {X Y : Type 0} (f : Y → ℕ) (g : X → List Y) (xs : List X) → sum_by f (flat_map g xs) ≡ sum_by (λ x. sum_by f (g x)) xs
sum_by-flat_map f g [] = refl
sum_by-flat_map f g (x ∷ xs) = rw (sum_by-append f (g x) (flat_map g xs), sum_by-cons (λ x. sum_by f (g x)) x xs, sum_by-flat_map f g xs) refl

-- a sum of multiples is the multiple of the sum
pub sum_by-times : {X : Type 0} (f : X → ℕ) (k : ℕ) (xs : List X) → sum_by (λ x. f x * k) xs ≡ sum_by f xs * k
sum_by-times f k [] = omega arith
sum_by-times f k (x ∷ xs) = rw (sum_by-cons (λ x. f x * k) x xs, sum_by-cons f x xs, sum_by-times f k xs) (omega arith)

-- a sum of sums of two terms
pub sum_by-plus : {X : Type 0} (f g : X → ℕ) (xs : List X) → sum_by (λ x. f x + g x) xs ≡ sum_by f xs + sum_by g xs
sum_by-plus f g [] = refl
sum_by-plus f g (x ∷ xs) = rw (sum_by-cons (λ x. f x + g x) x xs, sum_by-cons f x xs, sum_by-cons g x xs, sum_by-plus f g xs) (omega arith)

-- a sum of zeros
pub sum_by-none : {X : Type 0} (xs : List X) → sum_by (λ _. 0) xs ≡ 0
sum_by-none [] = refl
sum_by-none (x ∷ xs) = rw (sum_by-cons (λ _. 0) x xs, sum_by-none xs) refl

-- two sums may be exchanged
pub sum_by-exchange : {X Y : Type 0} (f : X → Y → ℕ) (xs : List X) (ys : List Y) → sum_by (λ x. sum_by (f x) ys) xs ≡ sum_by (λ y. sum_by (λ x. f x y) xs) ys
sum_by-exchange f [] ys = sym (sum_by-none ys)
sum_by-exchange f (x ∷ xs) ys =
    let head : sum_by (λ x. sum_by (f x) ys) (x ∷ xs) ≡ sum_by (f x) ys + sum_by (λ x. sum_by (f x) ys) xs = sum_by-cons (λ x. sum_by (f x) ys) x xs in
    let split : sum_by (λ y. sum_by (λ x. f x y) (x ∷ xs)) ys ≡ sum_by (λ y. f x y + sum_by (λ x. f x y) xs) ys = sum_by-same _ _ ys (λ y. sum_by-cons (λ x. f x y) x xs) in
    let parts = sum_by-plus (f x) (λ y. sum_by (λ x. f x y) xs) ys in
    let rest = sum_by-exchange f xs ys in
    omega (arith, head, split, parts, rest)

-- a sum over one more number
pub sum_by-range-suc : (f : ℕ → ℕ) (n : ℕ) → sum_by f (range_with_len 0 (suc n)) ≡ sum_by f (range_with_len 0 n) + f n
sum_by-range-suc f n = rw (range_with_len-suc 0 n, sum_by_push f (range_with_len 0 n) (0 + n), zero-add n) refl

-- the same as code counts
pub sum_by-range_more : (f : ℕ → ℕ) (n : ℕ) → sum_by f (range_with_len 0 (n + 1)) ≡ sum_by f (range_with_len 0 n) + f n
sum_by-range_more f n = rw (add-one n) (sum_by-range-suc f n)

-- a sum of larger terms is larger, where the terms of numbers below n are compared
pub sum_by-range-le : (n : ℕ) (f g : ℕ → ℕ) → ((k : ℕ) → k < n → f k ≤ g k) → sum_by f (range_with_len 0 n) ≤ sum_by g (range_with_len 0 n)
sum_by-range-le zero f g h = omega arith
sum_by-range-le (suc n) f g h =
    rw (sum_by-range-suc f n, sum_by-range-suc g n) (omega (arith, sum_by-range-le n f g (λ k lt. h k (omega arith)), h n (omega arith)))

-- equal terms below n have equal sums
pub sum_by-range-same : (n : ℕ) (f g : ℕ → ℕ) → ((k : ℕ) → k < n → f k ≡ g k) → sum_by f (range_with_len 0 n) ≡ sum_by g (range_with_len 0 n)
sum_by-range-same zero f g h = refl
sum_by-range-same (suc n) f g h =
    rw (sum_by-range-suc f n, sum_by-range-suc g n, sum_by-range-same n f g (λ k lt. h k (omega arith)), h n (omega arith)) refl

-- a sum over fewer numbers is smaller
pub sum_by-range-fewer : (n : ℕ) (f : ℕ → ℕ) (m : ℕ) → m ≤ n → sum_by f (range_with_len 0 m) ≤ sum_by f (range_with_len 0 n)
sum_by-range-fewer zero f zero h = omega arith
sum_by-range-fewer zero f (suc m) h = absurd (omega arith)
sum_by-range-fewer (suc n) f m h =
    elim (cases_eq m (suc n)) [
      | inl e ↦ rw e (omega arith)
      | inr ne ↦ rw (sum_by-range-suc f n) (omega (arith, sum_by-range-fewer n f m (omega arith)))
    ]

-- the terms below m and the one at m are within the sum over more of them
pub sum_by-range-part : (n : ℕ) (f : ℕ → ℕ) (m : ℕ) → m < n → sum_by f (range_with_len 0 m) + f m ≤ sum_by f (range_with_len 0 n)
sum_by-range-part n f m h = omega (arith, sum_by-range-suc f m, sum_by-range-fewer n f (suc m) (omega arith))

-- of terms that are 0 but at k, none counts where k isn't below n
sum_by-range-miss : (n k v : ℕ) (f : ℕ → ℕ) → n ≤ k → sum_by (λ d. (if k == d then v else 0) * f d) (range_with_len 0 n) ≡ 0
sum_by-range-miss zero k v f h = refl
sum_by-range-miss (suc n) k v f h =
    let apart : (k == n) ≡ false = ne_eqb k n (λ e. omega arith) in
    rw (sum_by-range-suc (λ d. (if k == d then v else 0) * f d) n, sum_by-range-miss n k v f (omega arith), apart) (omega arith)

-- of terms that are 0 but at k, the sum is the one at k
pub sum_by-range-pick : (n k v : ℕ) (f : ℕ → ℕ) → k < n → sum_by (λ d. (if k == d then v else 0) * f d) (range_with_len 0 n) ≡ v * f k
sum_by-range-pick zero k v f h = absurd (omega arith)
sum_by-range-pick (suc n) k v f h =
    rw (sum_by-range-suc (λ d. (if k == d then v else 0) * f d) n)
    (elim (cases_eq k n) [
      | inl e ↦ let at : (k == n) ≡ true = eq-eqb k n e in rw (at, sum_by-range-miss n k v f (omega arith), e) (zero-add (v * f n))
      | inr ne ↦ let apart : (k == n) ≡ false = ne_eqb k n ne in rw (apart, sum_by-range-pick n k v f (omega arith)) (omega arith)
    ])

-- a sum of larger terms is larger, where the terms of the list's elements are compared
pub sum_by-within : {X : Type 0} (f g : X → ℕ) (xs : List X) → ((x : X) → Contains xs x → f x ≤ g x) → sum_by f xs ≤ sum_by g xs
sum_by-within f g [] h = omega arith
sum_by-within f g (x ∷ xs) h =
    rw (sum_by-cons f x xs, sum_by-cons g x xs)
    (omega (arith, h x (Contains-head x xs), sum_by-within f g xs (λ y k. h y (Contains-tail x y xs k))))

-- equal terms of the list's elements have equal sums
pub sum_by-same_all : {X : Type 0} (f g : X → ℕ) (xs : List X) → All (λ x. f x ≡ g x) xs → sum_by f xs ≡ sum_by g xs
sum_by-same_all f g [] each = refl
sum_by-same_all f g (x ∷ xs) each =
    rw (sum_by-cons f x xs, sum_by-cons g x xs, All-head (λ x. f x ≡ g x) x xs each, sum_by-same_all f g xs (All-tail (λ x. f x ≡ g x) x xs each)) refl

kept : {X : Type 0} (b : Bool) (f : X → ℕ) (x : X) (ys : List X) → sum_by f (cond b (x ∷ ys) ys) ≡ f x * (if b then 1 else 0) + sum_by f ys
kept true f x ys = sum_by-cons f x ys ∙ omega arith
kept false f x ys = omega arith

-- the sum over the elements that pass a test counts each of them once, and the others not at all
pub sum_by-filter : {X : Type 0} (test : X → Bool) (f : X → ℕ) (xs : List X) → sum_by f (filter test xs) ≡ sum_by (λ x. f x * (if test x then 1 else 0)) xs
sum_by-filter test f [] = refl
sum_by-filter test f (x ∷ xs) =
    kept (test x) f x (filter test xs)
    ∙ rw (sum_by-cons (λ y. f y * (if test y then 1 else 0)) x xs, sum_by-filter test f xs) refl
