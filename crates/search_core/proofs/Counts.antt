-- How often prefixes stand in lists.
use Rattle.std.proofs.Common.{◌≡◌, ◌≢◌, ℕ, ◌+◌, ◌≤◌, ◌<◌, if◌then◌else◌, List, [], ◌∷◌, ◌++◌, length, inl, inr, sym, refl, ◌∙◌, subst, arith, Contains, bytes_eq, get_or, swap_remove, IsPermutation}
use Rattle.std.proofs.lemmas.List.Sorted.{IsPermutation-swap_remove, sum_by-IsPermutation}
use Rattle.std.proofs.lemmas.List.Recursion.{is_sum_by}
use Rattle.std.proofs.lemmas.Slice.Eq.{bytes_eq-Decides}
use Rattle.std.proofs.lemmas.Bool.{cond_both, cases_lt}
use Rattle.list_laws.proofs.Members.{Contains-head, Contains-tail, Contains-nil, Contains-cons_cases}
use Rattle.search_core.specs.Counts.{count_of, SameItems}

pub count_of-append : (q : List ℕ) (xs ys : List (List ℕ)) → count_of q (xs ++ ys) ≡ count_of q xs + count_of q ys
count_of-append q [] ys = omega arith
count_of-append q (x ∷ xs) ys = omega (arith, count_of-append q xs ys)

pub count_of_here : (q r : List ℕ) → r ≡ q → (let n : ℕ = if bytes_eq r q then 1 else 0 in n) ≡ 1
count_of_here q r e = rw ((bytes_eq-Decides r q).1 e) refl

pub not_counted : (q r : List ℕ) → r ≢ q → (let n : ℕ = if bytes_eq r q then 1 else 0 in n) ≡ 0
not_counted q r differ = cond_both (bytes_eq r q) 1 0 (λ n. n ≡ 0) (λ e. absurd (differ ((bytes_eq-Decides r q).0 e))) (λ _. refl)

pub at_most_one : (q r : List ℕ) → (let n : ℕ = if bytes_eq r q then 1 else 0 in n) ≤ 1
at_most_one q r = cond_both (bytes_eq r q) 1 0 (λ n. n ≤ 1) (λ _. omega arith) (λ _. omega arith)

-- what stands in a list is counted
pub counted : (q : List ℕ) (xs : List (List ℕ)) → Contains xs q → 0 < count_of q xs
counted q [] h = absurd (Contains-nil q h)
counted q (x ∷ xs) h = elim (Contains-cons_cases x q xs h) [
  | inl e ↦ omega (arith, count_of_here q x e)
  | inr k ↦ omega (arith, counted q xs k)
]

-- and what is counted stands there
pub Contains-counted : (q : List ℕ) (xs : List (List ℕ)) → 0 < count_of q xs → Contains xs q
Contains-counted q [] = λ h. absurd (omega (arith, h))
Contains-counted q (x ∷ xs) =
    cond_both (bytes_eq x q) 1 0 (λ n. 0 < n + count_of q xs → Contains (x ∷ xs) q)
    (λ b h. subst (λ z. Contains (z ∷ xs) q) (sym ((bytes_eq-Decides x q).0 b)) (Contains-head q xs))
    (λ b h. Contains-tail x q xs (Contains-counted q xs (omega (arith, h))))

-- what doesn't stand in a list isn't counted
pub none_counted : (q : List ℕ) (xs : List (List ℕ)) → (Contains xs q → ⊥) → count_of q xs ≡ 0
none_counted q xs differ = elim (cases_lt 0 (count_of q xs)) [
  | inl k ↦ absurd (differ (Contains-counted q xs k))
  | inr k ↦ omega (arith, k)
]

-- lists that are the same up to order have the same elements
pub Contains-same : (q : List ℕ) (xs ys : List (List ℕ)) → SameItems xs ys → Contains xs q → Contains ys q
Contains-same q xs ys same h = Contains-counted q ys (omega (arith, same q, counted q xs h))

-- another order holds each prefix as often
pub SameItems-permutation : (xs ys : List (List ℕ)) → IsPermutation xs ys → SameItems xs ys
SameItems-permutation xs ys h q =
    is_sum_by (count_of q) (λ r. if bytes_eq r q then 1 else 0) refl (λ _ _. refl) xs
    ∙ sym (sum_by-IsPermutation (λ r. if bytes_eq r q then 1 else 0) xs ys h)
    ∙ sym (is_sum_by (count_of q) (λ r. if bytes_eq r q then 1 else 0) refl (λ _ _. refl) ys)

-- an element that is taken out by the last one's move to its place
pub SameItems-swap_remove : (xs : List (List ℕ)) (i : ℕ) (x : List ℕ) → i < length xs → x ≡ get_or xs i x → SameItems xs (x ∷ swap_remove xs i x)
SameItems-swap_remove xs i x l at = SameItems-permutation xs (x ∷ swap_remove xs i x) (IsPermutation-swap_remove xs i x l at)
