-- The greatest of some numbers.
use Rattle.std.proofs.Common.{ℕ, ◌+◌, ◌≤◌, ◌<◌, ◌≡◌, max, List, [], ◌∷◌, ◌++◌, map, length, inl, inr, sym, refl, ap, ◌∙◌, subst, arith, All, Contains, flat_map}
use Rattle.std.proofs.Math.Nat.{le-max_left, le-max_right, max-eq_left, max-eq_right, max-zero, max-le}
use Rattle.std.proofs.lemmas.Bool.{cases_lt}
use Rattle.std.proofs.lemmas.List.Elements.{All-head, All-tail, All-weaker, All-contains_itself}
use Rattle.search_model.specs.Bounds.{greatest}
use Rattle.list_laws.proofs.Agreeing.{map_agree}
use Rattle.list_laws.proofs.Members.{Contains-nil, Contains-head, Contains-tail, Contains-cons_cases}

-- one number more
pub greatest-cons : (x : ℕ) (xs : List ℕ) → greatest (x ∷ xs) ≡ max x (greatest xs)
unfolding greatest
greatest-cons x xs = refl

pub greatest-nil : greatest [] ≡ 0
unfolding greatest
greatest-nil = refl

-- the greatest of one number
pub greatest-one : (x : ℕ) → greatest (x ∷ []) ≡ x
unfolding greatest
greatest-one x = max-zero x

-- no number is above the greatest
pub greatest_above : (xs : List ℕ) (x : ℕ) → Contains xs x → x ≤ greatest xs
unfolding greatest
greatest_above [] x h = absurd (Contains-nil x h)
greatest_above (a ∷ xs) x h = elim (Contains-cons_cases a x xs h) [
  | inl e ↦ omega (arith, e, le-max_left a (greatest xs))
  | inr k ↦ omega (arith, greatest_above xs x k, le-max_right a (greatest xs))
]

-- the greatest is one of them
pub greatest_reached : (xs : List ℕ) → 0 < length xs → Contains xs (greatest xs)
unfolding greatest
greatest_reached [] l = absurd (omega (arith, l))
greatest_reached (x ∷ []) l = rw max-zero (Contains-head x [])
greatest_reached (x ∷ z ∷ zs) l =
    let m : ℕ = greatest (z ∷ zs) in
    let P : ℕ → Type 0 = λ v. Contains (x ∷ z ∷ zs) v in
    elim (cases_lt x m) [
      | inl below ↦ subst P (sym (max-eq_right (let le : x ≤ m = omega (arith, below) in le))) (Contains-tail x m (z ∷ zs) (greatest_reached (z ∷ zs) (omega arith)))
      | inr above ↦ subst P (sym (max-eq_left above)) (Contains-head x (z ∷ zs))
    ]

-- what bounds each number bounds the greatest
pub greatest_below : (most : ℕ) (xs : List ℕ) → All (λ x. x ≤ most) xs → greatest xs ≤ most
unfolding greatest
greatest_below most [] each = omega arith
greatest_below most (x ∷ xs) each = max-le (All-head (λ x. x ≤ most) x xs each) (greatest_below most xs (All-tail (λ x. x ≤ most) x xs each))

-- two lists one after the other
pub greatest-append : (xs ys : List ℕ) → greatest (xs ++ ys) ≡ max (greatest xs) (greatest ys)
unfolding greatest
greatest-append [] ys = omega arith
greatest-append (x ∷ xs) ys = omega (arith, greatest-append xs ys)

-- all numbers raised by the same
pub greatest-raised : (k : ℕ) (xs : List ℕ) → 0 < length xs → greatest (map (λ x. k + x) xs) ≡ k + greatest xs
unfolding greatest
greatest-raised k [] some = absurd (omega (arith, some))
greatest-raised k (x ∷ []) some = omega arith
greatest-raised k (x ∷ z ∷ zs) some = omega (arith, greatest-raised k (z ∷ zs) (omega arith))

-- joined lists
pub greatest-flat_map : {A : Type 0} (f : A → List ℕ) (xs : List A) → greatest (flat_map f xs) ≡ greatest (map (λ x. greatest (f x)) xs)
unfolding greatest
greatest-flat_map f [] = refl
greatest-flat_map f (x ∷ xs) = greatest-append (f x) (flat_map f xs) ∙ ap (λ v. max (greatest (f x)) v) (greatest-flat_map f xs)

-- the greatest of what functions make is the same where they agree on each of a list
pub greatest-same : {A : Type 0} (f g : A → ℕ) (xs : List A) → ((x : A) → Contains xs x → f x ≡ g x) → greatest (map f xs) ≡ greatest (map g xs)
greatest-same f g xs each = ap greatest (map_agree f g xs (All-weaker (Contains xs) (λ x. f x ≡ g x) each xs (All-contains_itself xs)))
