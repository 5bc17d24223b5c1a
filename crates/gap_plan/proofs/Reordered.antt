-- Joined lists in another order, where an element that has no list is at hand.
use Rattle.std.proofs.Common.{◌≡◌, ◌≢◌, ℕ, zero, suc, ◌<◌, List, [], ◌∷◌, ◌++◌, length, set, get_or, inl, inr, sym, ap, ◌∙◌, subst, arith, append_assoc, length-set, IsPermutation, flat_map}
use Rattle.std.proofs.lemmas.Bool.{cases_eq}
use Rattle.std.proofs.lemmas.List.{set_comm, set-set, set-get_or, get_or-set_other, get_or-set_same}
use Rattle.std.proofs.lemmas.List.Sorted.{IsPermutation-refl, IsPermutation-sym, IsPermutation-trans, IsPermutation-keeps, IsPermutation-append_left, IsPermutation-append_right, IsPermutation-append_comm}
use Rattle.std.proofs.lemmas.List.Edits.{swap_is}
use Rattle.list_laws.proofs.Exchanges.{IsPermutation-same}

-- the first two of three lists change places
front_swap : {B : Type 0} (a b c : List B) → IsPermutation (a ++ (b ++ c)) (b ++ (a ++ c))
front_swap a b c =
    IsPermutation-trans _ _ _ (IsPermutation-same _ _ (sym (append_assoc a b c)))
    (IsPermutation-trans _ _ _ (IsPermutation-append_left c (a ++ b) (b ++ a) (IsPermutation-append_comm a b)) (IsPermutation-same _ _ (append_assoc b a c)))

module _ {A B : Type 0} (f : A → List B) (spent : A) (none : f spent ≡ []) where
  -- one element's list comes first
  taken : (l : List A) (i : ℕ) (d : A) → i < length l → IsPermutation (flat_map f l) (f (get_or l i d) ++ flat_map f (set l i spent))
  taken [] i d inside = absurd (omega (arith, inside))
  taken (x ∷ l) zero d inside = IsPermutation-same _ _ (ap (λ (ys : List B). f x ++ (ys ++ flat_map f l)) (sym none))
  taken (x ∷ l) (suc i) d inside =
      IsPermutation-trans _ _ _ (IsPermutation-append_right (f x) _ _ (taken l i d (omega (arith, inside)))) (front_swap (f x) (f (get_or l i d)) (flat_map f (set l i spent)))

  -- two elements' lists come first
  both_taken : (l : List A) (i j : ℕ) (d : A) → j ≢ i → i < length l → j < length l →
      IsPermutation (flat_map f l) (f (get_or l i d) ++ (f (get_or l j d) ++ flat_map f (set (set l i spent) j spent)))
  both_taken l i j d differ p q =
      let left : List A = set l i spent in
      let second : IsPermutation (flat_map f left) (f (get_or l j d) ++ flat_map f (set left j spent)) =
      subst (λ (z : A). IsPermutation (flat_map f left) (f z ++ flat_map f (set left j spent))) (get_or-set_other l i j spent d differ)
      (taken left j d (omega (arith, q, length-set l i spent))) in
      IsPermutation-trans _ _ _ (taken l i d p) (IsPermutation-append_right (f (get_or l i d)) _ _ second)

  -- two elements change places
  exchanged : (l : List A) (i j : ℕ) (d : A) → j ≢ i → i < length l → j < length l →
      IsPermutation (flat_map f l) (flat_map f (set (set l i (get_or l j d)) j (get_or l i d)))
  exchanged l i j d differ p q =
      let v : A = get_or l i d in
      let u : A = get_or l j d in
      let first : List A = set l i u in
      let now : List A = set first j v in
      let other : i ≢ j = λ e. differ (sym e) in
      let size : length first ≡ length l = length-set l i u in
      let at_i : get_or now i d ≡ u = get_or-set_other first j i v d other ∙ get_or-set_same l i u d p in
      let at_j : get_or now j d ≡ v = get_or-set_same first j v d (omega (arith, q, size)) in
      let emptied : set (set now i spent) j spent ≡ set (set l i spent) j spent =
      ap (λ (z : List A). set (set z i spent) j spent) (set_comm l i j u v other) ∙ ap (λ (z : List A). set z j spent) (set-set (set l j v) i u spent ∙ set_comm l j i v spent differ)
      ∙ set-set (set l i spent) j v spent in
      let rest : List B = flat_map f (set (set l i spent) j spent) in
      let back : IsPermutation (flat_map f now) (f u ++ (f v ++ rest)) =
      subst (λ (z : A). IsPermutation (flat_map f now) (f z ++ (f v ++ rest))) at_i
      (subst (λ (z : A). IsPermutation (flat_map f now) (f (get_or now i d) ++ (f z ++ rest))) at_j
      (subst (λ (zs : List A). IsPermutation (flat_map f now) (f (get_or now i d) ++ (f (get_or now j d) ++ flat_map f zs))) emptied
      (both_taken now i j d differ (omega (arith, p, size, length-set first j v)) (omega (arith, q, size, length-set first j v))))) in
      IsPermutation-trans _ _ _ (both_taken l i j d differ p q)
      (IsPermutation-trans _ _ _ (front_swap (f v) (f u) rest) (IsPermutation-sym _ _ back))

  swapped : (l : List A) (i j : ℕ) → i < length l → j < length l → IsPermutation (flat_map f l) (flat_map f (set (set l i (get_or l j spent)) j (get_or l i spent)))
  swapped l i j p q = elim (cases_eq j i) [
    | inl e ↦
        (let back : set (set l i (get_or l j spent)) j (get_or l i spent) ≡ l =
        ap (λ k. set (set l i (get_or l k spent)) k (get_or l i spent)) e ∙ set-set l i (get_or l i spent) (get_or l i spent) ∙ set-get_or l i spent in
        IsPermutation-same _ _ (ap (flat_map f) (sym back)))
    | inr differ ↦ exchanged l i j spent differ p q
  ]

  -- another order of a list joins the same elements
  pub IsPermutation-flat_map : (xs ys : List A) → IsPermutation xs ys → IsPermutation (flat_map f xs) (flat_map f ys)
  IsPermutation-flat_map xs ys =
      IsPermutation-keeps xs (λ (l : List A). IsPermutation (flat_map f xs) (flat_map f l)) (IsPermutation-refl (flat_map f xs))
      (λ l i j p q h.
      subst (λ (l : List A). IsPermutation (flat_map f xs) (flat_map f l)) (swap_is l i j spent p q) (IsPermutation-trans _ _ _ h (swapped l i j p q))) ys
