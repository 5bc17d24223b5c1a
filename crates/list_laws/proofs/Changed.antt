-- Lists of which one element is changed, read by `get_elem?` as the rules of shared words and deques read them.
use Rattle.std.proofs.Common.{◌≡◌, ◌≢◌, ℕ, zero, suc, ◌+◌, ◌≤◌, List, [], ◌∷◌, ◌++◌, set, sym, ap, ◌∙◌, refl, subst, append_assoc, arith, All, IsPermutation}
use Rattle.std.specs.List.{flat_map, sum_by}
use Rattle.std.proofs.lemmas.Grind.{flat_map-append}
use Rattle.std.proofs.lemmas.List.Elements.{All-head, All-tail}
use Rattle.std.proofs.lemmas.List.Sums.{sum_by-cons}
use Rattle.std.proofs.lemmas.List.Sorted.{IsPermutation-trans, IsPermutation-append_right, IsPermutation-append_comm}
use Rattle.std.proofs.lemmas.List.{append-nil, set_comm}
use mathlib.Core.Option.{some, some-injective, some-ne-none}
use lib.ListN.{get_elem?}
use Rattle.list_laws.proofs.Exchanges.{IsPermutation-same, IsPermutation-swap_last}
use Rattle.list_laws.proofs.Halves.{All-front, All-back}

-- what holds of all elements holds of one
pub All-at : {A : Type 0} (P : A → Type 0) (xs : List A) (i : ℕ) (v : A) → get_elem? xs i ≡ some v → All P xs → P v
All-at P [] i v at h = absurd (some-ne-none v (sym at))
All-at P (x ∷ xs) zero v at h = subst P (some-injective x v at) (All-head P x xs h)
All-at P (x ∷ xs) (suc i) v at h = All-at P xs i v at (All-tail P x xs h)

-- what holds of all that the elements' lists hold holds of one's
pub All-flat_map_at : {A B : Type 0} (P : B → Type 0) (f : A → List B) (xs : List A) (i : ℕ) (v : A) → get_elem? xs i ≡ some v → All P (flat_map f xs) → All P (f v)
All-flat_map_at P f [] i v at h = absurd (some-ne-none v (sym at))
All-flat_map_at P f (x ∷ xs) zero v at h = subst (λ y. All P (f y)) (some-injective x v at) (All-front P (f x) (flat_map f xs) h)
All-flat_map_at P f (x ∷ xs) (suc i) v at h = All-flat_map_at P f xs i v at (All-back P (f x) (flat_map f xs) h)

-- what is written stands there
pub set_there : {A : Type 0} (xs : List A) (i : ℕ) (v w : A) → get_elem? xs i ≡ some v → get_elem? (set xs i w) i ≡ some w
set_there [] i v w at = absurd (some-ne-none v (sym at))
set_there (x ∷ xs) zero v w at = refl
set_there (x ∷ xs) (suc i) v w at = set_there xs i v w at

module _ {A : Type 0} (f : A → ℕ) where
  -- a sum after a change of one element
  pub sum_by-set_at : (xs : List A) (i : ℕ) (v w : A) → get_elem? xs i ≡ some v → sum_by f (set xs i w) + f v ≡ sum_by f xs + f w
  sum_by-set_at [] i v w at = absurd (some-ne-none v (sym at))
  sum_by-set_at (x ∷ xs) zero v w at = omega (arith, ap f (some-injective x v at), sum_by-cons f w xs, sum_by-cons f x xs)
  sum_by-set_at (x ∷ xs) (suc i) v w at = omega (arith, sum_by-cons f x (set xs i w), sum_by-cons f x xs, sum_by-set_at xs i v w at)

  -- no term is above its sum
  pub sum_by-at : (xs : List A) (i : ℕ) (v : A) → get_elem? xs i ≡ some v → f v ≤ sum_by f xs
  sum_by-at [] i v at = absurd (some-ne-none v (sym at))
  sum_by-at (x ∷ xs) zero v at = omega (arith, ap f (some-injective x v at), sum_by-cons f x xs)
  sum_by-at (x ∷ xs) (suc i) v at = omega (arith, sum_by-cons f x xs, sum_by-at xs i v at)

  -- beside a term that is the whole sum the others are 0
  pub sum_by-else : (xs : List A) (i j : ℕ) (v u : A) → get_elem? xs i ≡ some v → get_elem? xs j ≡ some u → j ≢ i → sum_by f xs ≡ f v → f u ≡ 0
  sum_by-else [] i j v u at there differ all = absurd (some-ne-none v (sym at))
  sum_by-else (x ∷ xs) zero zero v u at there differ all = absurd (differ refl)
  sum_by-else (x ∷ xs) zero (suc j) v u at there differ all = omega (arith, ap f (some-injective x v at), sum_by-cons f x xs, sum_by-at xs j u there)
  sum_by-else (x ∷ xs) (suc i) zero v u at there differ all = omega (arith, ap f (some-injective x u there), sum_by-cons f x xs, sum_by-at xs i v at)
  sum_by-else (x ∷ xs) (suc i) (suc j) v u at there differ all =
      sum_by-else xs i j v u at there (λ e. differ (ap suc e)) (omega (arith, sum_by-cons f x xs, sum_by-at xs i v at))

module _ {A B : Type 0} (f : A → List B) where
  -- one element more
  pub flat_map-push : (xs : List A) (x : A) → flat_map f (xs ++ x ∷ []) ≡ flat_map f xs ++ f x
  flat_map-push xs x = flat_map-append f xs (x ∷ []) ∙ ap (λ (l : List B). flat_map f xs ++ l) (append-nil (f x))

  -- one element's list grows at its end
  pub flat_map-grown : (xs : List A) (i : ℕ) (v w : A) (more : List B) → get_elem? xs i ≡ some v → f w ≡ f v ++ more → IsPermutation (flat_map f xs ++ more) (flat_map f (set xs i w))
  flat_map-grown [] i v w more at grown = absurd (some-ne-none v (sym at))
  flat_map-grown (x ∷ xs) zero v w more at grown =
      let e : f x ++ more ≡ f w = ap (λ (y : A). f y ++ more) (some-injective x v at) ∙ sym grown in
      IsPermutation-trans _ _ _ (IsPermutation-swap_last (f x) (flat_map f xs) more) (IsPermutation-same _ _ (ap (λ (l : List B). l ++ flat_map f xs) e))
  flat_map-grown (x ∷ xs) (suc i) v w more at grown =
      IsPermutation-trans _ _ _ (IsPermutation-same _ _ (append_assoc (f x) (flat_map f xs) more)) (IsPermutation-append_right (f x) _ _ (flat_map-grown xs i v w more at grown))

  -- one element's list stays
  pub flat_map-stays : (xs : List A) (i : ℕ) (v w : A) → get_elem? xs i ≡ some v → f w ≡ f v → flat_map f (set xs i w) ≡ flat_map f xs
  flat_map-stays [] i v w at same = refl
  flat_map-stays (x ∷ xs) zero v w at same = ap (λ (l : List B). l ++ flat_map f xs) (same ∙ sym (ap f (some-injective x v at)))
  flat_map-stays (x ∷ xs) (suc i) v w at same = ap (λ (l : List B). f x ++ l) (flat_map-stays xs i v w at same)

  -- one element's list stays, and there is one more without a list
  pub flat_map-beside : (xs : List A) (i : ℕ) (v w more : A) → get_elem? xs i ≡ some v → f w ≡ f v → f more ≡ [] → flat_map f (set xs i w ++ more ∷ []) ≡ flat_map f xs
  flat_map-beside xs i v w more at same none =
      flat_map-push (set xs i w) more ∙ ap (λ (l : List B). flat_map f (set xs i w) ++ l) none ∙ append-nil (flat_map f (set xs i w)) ∙ flat_map-stays xs i v w at same

  -- one element's list is taken out
  pub flat_map-out : (xs : List A) (i : ℕ) (v w : A) → get_elem? xs i ≡ some v → f w ≡ [] → IsPermutation (flat_map f xs) (flat_map f (set xs i w) ++ f v)
  flat_map-out [] i v w at none = absurd (some-ne-none v (sym at))
  flat_map-out (x ∷ xs) zero v w at none =
      let e : flat_map f xs ++ f x ≡ (f w ++ flat_map f xs) ++ f v =
      ap (λ (y : A). flat_map f xs ++ f y) (some-injective x v at) ∙ ap (λ (l : List B). (l ++ flat_map f xs) ++ f v) (sym none) in
      IsPermutation-trans _ _ _ (IsPermutation-append_comm (f x) (flat_map f xs)) (IsPermutation-same _ _ e)
  flat_map-out (x ∷ xs) (suc i) v w at none =
      IsPermutation-trans _ _ _ (IsPermutation-append_right (f x) _ _ (flat_map-out xs i v w at none))
      (IsPermutation-same _ _ (sym (append_assoc (f x) (flat_map f (set xs i w)) (f v))))

  -- and goes to the end of another's, which stays in its place meanwhile
  pub flat_map-moved : (xs : List A) (i j : ℕ) (v w both spent : A) → j ≢ i → get_elem? (set xs j spent) i ≡ some v → get_elem? xs j ≡ some w → f both ≡ f v ++ f w → f spent ≡ [] →
      IsPermutation (flat_map f xs) (flat_map f (set (set xs i both) j spent))
  flat_map-moved xs i j v w both spent differ at there more none =
      IsPermutation-trans _ _ _ (flat_map-out xs j w spent there none)
      (IsPermutation-trans _ _ _ (flat_map-grown (set xs j spent) i v both (f w) at more)
      (IsPermutation-same _ _ (ap (flat_map f) (set_comm xs j i spent both differ))))

  -- elements without a list
  flat_map-none : (xs : List A) → ((i : ℕ) (v : A) → get_elem? xs i ≡ some v → f v ≡ []) → flat_map f xs ≡ []
  flat_map-none [] none = refl
  flat_map-none (x ∷ xs) none = ap (λ (l : List B). l ++ flat_map f xs) (none 0 x refl) ∙ flat_map-none xs (λ i v at. none (suc i) v at)

  -- elements of which one alone has a list
  pub flat_map-one : (xs : List A) (i : ℕ) (v : A) → get_elem? xs i ≡ some v → ((j : ℕ) (u : A) → get_elem? xs j ≡ some u → j ≢ i → f u ≡ []) → flat_map f xs ≡ f v
  flat_map-one [] i v at none = absurd (some-ne-none v (sym at))
  flat_map-one (x ∷ xs) zero v at none =
      ap (λ (l : List B). f x ++ l) (flat_map-none xs (λ j u there. none (suc j) u there (λ e. omega arith))) ∙ append-nil (f x) ∙ ap f (some-injective x v at)
  flat_map-one (x ∷ xs) (suc i) v at none =
      ap (λ (l : List B). l ++ flat_map f xs) (none 0 x refl (λ e. omega arith)) ∙ flat_map-one xs i v at (λ j u there differ. none (suc j) u there (λ e. differ (omega arith)))
