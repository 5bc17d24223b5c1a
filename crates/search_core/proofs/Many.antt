-- Distinct live prefixes in ascending order.
use Rattle.std.proofs.Common.{◌≢◌, ℕ, List, [], ◌∷◌, inl, inr, sym, refl, subst, arith, Contains, IsPermutation}
use Rattle.std.proofs.lemmas.Bool.{cases_Bool}
use Rattle.std.proofs.lemmas.List.Elements.{All-nil, All-cons, All-weaker}
use Rattle.list_laws.proofs.Pairs.{AllPairs-nil, AllPairs-cons, AllPairs-head, AllPairs-tail}
use Rattle.std.proofs.lemmas.List.Sorted.{IsPermutation-refl, IsPermutation-sym, IsPermutation-cons, IsPermutation-middle, IsPermutation-trans, All-permutation, Contains-permutation, length_permutation}
use Rattle.search_model.specs.Order.{smaller}
use Rattle.list_laws.proofs.Members.{Contains-head, Contains-tail}
use Rattle.search_model.proofs.Orders.{smaller_total, smaller_trans}
use Rattle.bound_tree.specs.Close.{IsLive}
use Rattle.search_core.specs.Balance.{AreDistinct}
use Rattle.search_core.specs.Laws.{DistinctLiveAreMany}
use Rattle.search_core.proofs.Order.{IsAbove, Ascends}
use Rattle.search_core.proofs.Counts.{counted, count_of_here}

-- a prefix goes to its place among ascending ones
placed : (q : List ℕ) (rs : List (List ℕ)) → Ascends rs → (Contains rs q → ⊥) → (qs : List (List ℕ)) × Ascends qs × IsPermutation (q ∷ rs) qs
placed q [] up new = (q ∷ [], AllPairs-cons IsAbove q [] (All-nil (IsAbove q)) up, IsPermutation-refl (q ∷ []))
placed q (r ∷ rs) up new = elim (cases_Bool (smaller q r)) [
  | inl less ↦ (
    q ∷ r ∷ rs,
    AllPairs-cons IsAbove q (r ∷ rs)
        (All-cons (IsAbove q) r rs less (All-weaker (IsAbove r) (IsAbove q) (λ z h. smaller_trans q r z less h) rs (AllPairs-head IsAbove r rs up)))
        up,
    IsPermutation-refl (q ∷ r ∷ rs),
  )
  | inr not ↦
      let rest = placed q rs (AllPairs-tail IsAbove r rs up) (λ h. new (Contains-tail r q rs h)) in
      let differ : r ≢ q = λ e. new (subst (λ z. Contains (z ∷ rs) q) (sym e) (Contains-head q rs)) in
      let less : IsAbove r q = smaller_total r q differ not in (
        r ∷ rest.0,
        AllPairs-cons IsAbove r rest.0 (All-permutation (IsAbove r) (q ∷ rs) rest.0 rest.2 (All-cons (IsAbove r) q rs less (AllPairs-head IsAbove r rs up))) rest.1,
        IsPermutation-trans (q ∷ r ∷ rs) (r ∷ q ∷ rs) (r ∷ rest.0) (IsPermutation-middle (q ∷ []) r rs) (IsPermutation-cons r (q ∷ rs) rest.0 rest.2),
      )
]

-- distinct prefixes can be put in ascending order
in_order : (qs : List (List ℕ)) → AreDistinct qs → (rs : List (List ℕ)) × Ascends rs × IsPermutation qs rs
in_order [] once = ([], AllPairs-nil IsAbove, IsPermutation-refl [])
in_order (q ∷ qs) once =
    let rest = in_order qs (λ r. let one = once r in omega (arith, one)) in
    let new : Contains rest.0 q → ⊥ = λ h.
    (let one = once q in
    let there = counted q qs (Contains-permutation rest.0 qs q (IsPermutation-sym qs rest.0 rest.2) h) in
    omega (arith, one, there, count_of_here q q refl)) in
    let all = placed q rest.0 rest.1 new in
    (all.0, all.1, IsPermutation-trans (q ∷ qs) (q ∷ rest.0) all.0 (IsPermutation-cons q qs rest.0 rest.2) all.2)

pub distinct_live_are_many : DistinctLiveAreMany
distinct_live_are_many p s limit qs once live more =
    let sorted = in_order qs once in
    (sorted.0, sorted.1, All-permutation (IsLive p s) qs sorted.0 sorted.2 live, omega (arith, more, length_permutation qs sorted.0 sorted.2))
