-- Sorted records of a whole tree are its preorder.
use Rattle.std.proofs.Common.{◌≡◌, ◌≢◌, ℕ, suc, ◌+◌, ◌<◌, true, false, List, [], ◌∷◌, length, get_or, sym, refl, arith, All, IsPermutation, sum_by}
use Rattle.std.specs.List.Sorted.{IsSortedBy}
use Rattle.std.proofs.lemmas.List.{length-map, get_or-map}
use Rattle.std.proofs.lemmas.List.Elements.{All-nil, All-cons, All-weaker}
use Rattle.list_laws.proofs.Pairs.{AllPairs-nil, AllPairs-cons, AllPairs-head}
use Rattle.std.proofs.lemmas.List.Recursion.{is_sum_by}
use Rattle.std.proofs.lemmas.List.Sorted.{sum_by-IsPermutation, IsPermutation-map, All-permutation}
use Rattle.search_model.specs.Problem.{Problem, IsProblem}
use Rattle.search_model.specs.Order.{smaller}
use Rattle.search_model.proofs.Orders.{smaller_total, smaller_trans}
use Rattle.bound_tree.specs.declared.node.TreeNode.{TreeNode}
use Rattle.bound_tree.specs.Accepts.{prefixes_of}
use Rattle.bound_tree.specs.Accepts.{expected_by, IsGood}
use Rattle.search_core.specs.Counts.{count_of}
use Rattle.search_core.specs.Balance.{expected_of, MeetsEquation, AreDistinct}
use Rattle.search_core.proofs.Counts.{count_of-append, count_of_here, SameItems-permutation}
use Rattle.search_core.proofs.Reached.{distinct}
use Rattle.search_core.proofs.Preorder.{balanced_is_accepted}
use Rattle.tree_gather.specs.Gathered.{IsGathered, IsAcceptedWhereGood}
use Rattle.search_core.proofs.Order.{IsAbove, Ascends}

-- no prefix is smaller than the one before it
abbrev NeverFalls : List (List ℕ) → Type 0
NeverFalls qs = (k : ℕ) (d : List ℕ) → k + 1 < length qs → smaller (get_or qs (k + 1) d) (get_or qs k d) ≡ false

-- the first of distinct prefixes that never fall is smaller than the second, and so than all
first_below : (q : List ℕ) (qs : List (List ℕ)) → NeverFalls (q ∷ qs) → AreDistinct (q ∷ qs) → Ascends qs → All (IsAbove q) qs
first_below q [] up once above = All-nil (IsAbove q)
first_below q (r ∷ rs) up once above =
    let differ : q ≢ r = λ e. (let one = once q in let here = count_of_here q q refl in let there = count_of_here q r (sym e) in omega (arith, one, here, there)) in
    let next : smaller q r ≡ true = smaller_total q r differ (up 0 [] (omega arith)) in
    All-cons (IsAbove q) r rs next (All-weaker (IsAbove r) (IsAbove q) (λ z h. smaller_trans q r z next h) rs (AllPairs-head IsAbove r rs above))

-- distinct prefixes that never fall ascend
ascending : (qs : List (List ℕ)) → NeverFalls qs → AreDistinct qs → Ascends qs
ascending [] up once = AllPairs-nil IsAbove
ascending (q ∷ qs) up once =
    let rest = ascending qs (λ k d l. let step : suc k + 1 ≡ suc (k + 1) = omega arith in rw step at (up (suc k) d (omega (arith, l)))) (λ r. let one = once r in omega (arith, one)) in
    AllPairs-cons IsAbove q qs (first_below q qs up once rest) rest

-- the prefixes of records that are sorted by them never fall
sorted_prefixes : (rs : List TreeNode) → IsSortedBy (λ a b. smaller a.prefix b.prefix) rs → NeverFalls (prefixes_of rs)
sorted_prefixes [] sorted k d l = absurd (omega (arith, l))
sorted_prefixes (r ∷ rs) sorted k d l =
    let prefix : TreeNode → List ℕ = λ r. r.prefix in
    let within : k + 1 < length (r ∷ rs) = (let size : length (prefixes_of (r ∷ rs)) ≡ length (r ∷ rs) = simp length-map in omega (arith, l, size)) in
    rw (get_or-map prefix (r ∷ rs) (k + 1) r d within, get_or-map prefix (r ∷ rs) k r d (omega (arith, within)))
    (sorted k r (omega arith) within)

-- another order of the records meets the same equation
expects : (p : Problem) (q : List ℕ) (rs : List TreeNode) → count_of q (expected_of p rs) ≡ sum_by (λ r. count_of q (expected_by p r.prefix r.kind)) rs
expects p q rs =
    is_sum_by (λ rs. count_of q (expected_of p rs)) (λ r. count_of q (expected_by p r.prefix r.kind)) refl
    (λ r rs. count_of-append q (expected_by p r.prefix r.kind) (expected_of p rs)) rs

equation_permuted : (p : Problem) (rs ts : List TreeNode) → IsPermutation rs ts → MeetsEquation p [] [] rs → MeetsEquation p [] [] ts
equation_permuted p rs ts same equation q =
    let children : TreeNode → ℕ = λ r. count_of q (expected_by p r.prefix r.kind) in
    omega (
      arith,
      equation q,
      expects p q rs,
      expects p q ts,
      sum_by-IsPermutation children rs ts same,
      SameItems-permutation (prefixes_of rs) (prefixes_of ts) (IsPermutation-map (λ (r : TreeNode). r.prefix) rs ts same) q,
    )

pub sorted_is_gathered : (p : Problem) (rs ts : List TreeNode) → IsProblem p → MeetsEquation p [] [] rs → IsPermutation rs ts →
    IsSortedBy (λ a b. smaller a.prefix b.prefix) ts → IsGathered rs ts
sorted_is_gathered p rs ts sound equation same sorted = record {
  same = same;
  preorder = ascending (prefixes_of ts) (sorted_prefixes ts sorted) (distinct p [] [] ts (equation_permuted p rs ts same equation) sound);
}

pub gathered_is_accepted : (p : Problem) (rs ts : List TreeNode) → IsProblem p → MeetsEquation p [] [] rs → IsGathered rs ts → IsAcceptedWhereGood p rs ts
gathered_is_accepted p rs ts sound equation gathered s exact good =
    balanced_is_accepted p s ts sound exact (equation_permuted p rs ts gathered.same equation)
    (All-permutation (IsGood p s) rs ts gathered.same good) gathered.preorder
