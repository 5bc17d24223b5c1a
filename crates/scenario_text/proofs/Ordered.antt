-- A list in ascending order of a key.
use Rattle.std.proofs.Common.{◌≡◌, ℕ, ◌+◌, ◌<◌, ◌≤◌, cond, List, [], ◌∷◌, refl, ◌∙◌, arith, inl, inr}
use Rattle.std.specs.Prelude.{◌==◌, nat_lt, All, count_by}
use Rattle.std.specs.List.Sorted.{IsPermutation}
use Rattle.std.proofs.lemmas.Bool.{cases_Bool, cases_eq, eq-eqb, ne_eqb, ltb-true, ltb-false}
use Rattle.std.proofs.lemmas.List.Elements.{All-nil, All-cons, All-head, All-tail, All-weaker}
use Rattle.std.proofs.lemmas.List.Sorted.{IsPermutation-refl, IsPermutation-trans, IsPermutation-cons, IsPermutation-to_front, IsPermutation-append_left, All-permutation}
use Rattle.std.proofs.lemmas.List.Sums.{sum_by-cons}
use Rattle.list_laws.proofs.Ascending.{Ascends, Ascends-head, Ascends-tail}
use Rattle.list_laws.proofs.Pairs.{AllPairs-nil, AllPairs-cons}

module _ {X : Type 0} (key : X → ℕ) where
  -- an element before the first that is above it
  put : X → List X → List X
  put x [] = x ∷ []
  put x (y ∷ ys) = cond (nat_lt (key x) (key y)) (x ∷ y ∷ ys) (y ∷ put x ys)

  pub in_order : List X → List X
  in_order [] = []
  in_order (x ∷ xs) = put x (in_order xs)

  -- the elements are the same
  second_first : (x y : X) (ys : List X) → IsPermutation (x ∷ y ∷ ys) (y ∷ x ∷ ys)
  second_first x y ys = IsPermutation-append_left ys (x ∷ y ∷ []) (y ∷ x ∷ []) (IsPermutation-to_front (x ∷ []) y)

  put_same : (x : X) (ys : List X) → IsPermutation (x ∷ ys) (put x ys)
  unfolding put
  put_same x [] = IsPermutation-refl (x ∷ [])
  put_same x (y ∷ ys) = elim (cases_Bool (nat_lt (key x) (key y))) [
    | inl below ↦ rw below (IsPermutation-refl (x ∷ y ∷ ys))
    | inr above ↦ rw above (IsPermutation-trans (x ∷ y ∷ ys) (y ∷ x ∷ ys) (y ∷ put x ys) (second_first x y ys) (IsPermutation-cons y (x ∷ ys) (put x ys) (put_same x ys)))
  ]

  pub in_order_same : (xs : List X) → IsPermutation xs (in_order xs)
  unfolding in_order
  in_order_same [] = IsPermutation-refl []
  in_order_same (x ∷ xs) = IsPermutation-trans (x ∷ xs) (x ∷ in_order xs) (put x (in_order xs)) (IsPermutation-cons x xs (in_order xs) (in_order_same xs)) (put_same x (in_order xs))

  -- the keys rise, where none is met twice
  put_rises : (x : X) (ys : List X) → Ascends key ys → All (λ y. key y ≡ key x → ⊥) ys → Ascends key (put x ys)
  unfolding put
  put_rises x [] up apart = AllPairs-cons (λ y z. key y < key z) x [] (All-nil (λ z. key x < key z)) up
  put_rises x (y ∷ ys) up apart =
      let other = All-head (λ z. key z ≡ key x → ⊥) y ys apart in
      let above_y = Ascends-head key y ys up in
      elim (cases_Bool (nat_lt (key x) (key y))) [
        | inl below ↦
            let lt = ltb-true (key x) (key y) below in
            rw below (AllPairs-cons (λ a b. key a < key b) x (y ∷ ys) (All-cons (λ z. key x < key z) y ys lt (All-weaker (λ z. key y < key z) (λ z. key x < key z) (λ z more. omega (arith, lt, more)) ys above_y)) up)
        | inr above ↦
            let le = ltb-false (key x) (key y) above in
            let lt : key y < key x = less (key y) (key x) le other in
            let rest = put_rises x ys (Ascends-tail key y ys up) (All-tail (λ z. key z ≡ key x → ⊥) y ys apart) in
            let all = All-permutation (λ z. key y < key z) (x ∷ ys) (put x ys) (put_same x ys) (All-cons (λ z. key y < key z) x ys lt above_y) in
            rw above (AllPairs-cons (λ a b. key a < key b) y (put x ys) all rest)
      ]
    where
      less : (m n : ℕ) → m ≤ n → (m ≡ n → ⊥) → m < n
      less m n le other = elim (cases_eq m n) [ inl same ↦ absurd (other same) | inr apart ↦ omega (arith, le, apart) ]

  none_of : (d : ℕ) (xs : List X) → count_by (λ y. key y == d) xs ≡ 0 → All (λ y. key y ≡ d → ⊥) xs
  none_of d [] none = All-nil (λ y. key y ≡ d → ⊥)
  none_of d (x ∷ xs) none =
      let step = sum_by-cons (λ y. cond (key y == d) 1 0) x xs in
      elim (cases_eq (key x) d) [
        | inl same ↦
            let one : count_by (λ y. key y == d) (x ∷ xs) ≡ 1 + count_by (λ y. key y == d) xs = step ∙ rw (eq-eqb (key x) d same) refl in
            absurd (omega (arith, one, none))
        | inr apart ↦
            let less : count_by (λ y. key y == d) (x ∷ xs) ≡ 0 + count_by (λ y. key y == d) xs = step ∙ rw (ne_eqb (key x) d apart) refl in
            All-cons (λ y. key y ≡ d → ⊥) x xs apart (none_of d xs (omega (arith, less, none)))
      ]

  pub in_order_rises : (xs : List X) → ((d : ℕ) → count_by (λ y. key y == d) xs ≤ 1) → Ascends key (in_order xs)
  unfolding in_order
  in_order_rises [] once = AllPairs-nil (λ y z. key y < key z)
  in_order_rises (x ∷ xs) once =
      let own : count_by (λ y. key y == key x) (x ∷ xs) ≡ 1 + count_by (λ y. key y == key x) xs = sum_by-cons (λ y. cond (key y == key x) 1 0) x xs ∙ rw (eq-eqb (key x) (key x) refl) refl in
      let apart = All-permutation (λ y. key y ≡ key x → ⊥) xs (in_order xs) (in_order_same xs) (none_of (key x) xs (let most = once (key x) in omega (arith, own, most))) in
      put_rises x (in_order xs) (in_order_rises xs (λ d. let step = sum_by-cons (λ y. cond (key y == d) 1 0) x xs in let most = once d in omega (arith, step, most))) apart
