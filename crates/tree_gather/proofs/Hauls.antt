-- The balances of hauls give the equation over all of them.
use Rattle.std.proofs.Common.{◌≡◌, ℕ, ◌+◌, List, [], ◌∷◌, ◌++◌, arith, All, flat_map}
use Rattle.std.proofs.lemmas.List.Elements.{All-head, All-tail}
use Rattle.search_model.specs.Problem.{Problem}
use Rattle.bound_tree.specs.Accepts.{prefixes_of}
use Rattle.search_core.specs.Counts.{count_of}
use Rattle.search_core.specs.Balance.{expected_of}
use Rattle.search_core.proofs.Counts.{count_of-append}
use Rattle.search_core.proofs.Children.{expected-append, prefixes-append}
use Rattle.search_core.proofs.Reached.{standing_is}
use Rattle.tree_gather.specs.Hauls.{Haul, IsHaulBalanced, records_of, waiting_of}
use Rattle.tree_gather.specs.Laws.{AllHaulsAreEven}

pub three_lists : (q : List ℕ) (xs ys zs : List (List ℕ)) → count_of q (xs ++ ys ++ zs) ≡ count_of q xs + count_of q ys + count_of q zs
three_lists q xs ys zs = omega (arith, count_of-append q (xs ++ ys) zs, count_of-append q xs ys)

haul_counts : (p : Problem) (hauls : List Haul) (q : List ℕ) → All (IsHaulBalanced p) hauls →
    count_of q (flat_map (λ h. h.began) hauls) + count_of q (flat_map (λ h. h.taken) hauls) + count_of q (expected_of p (flat_map (λ h. h.records) hauls))
    ≡ count_of q (prefixes_of (flat_map (λ h. h.records) hauls)) + count_of q (flat_map (λ h. h.waiting) hauls) + count_of q (flat_map (λ h. h.put) hauls)
haul_counts p [] q all = omega arith
haul_counts p (h ∷ hs) q all =
    omega (
      arith,
      (All-head (IsHaulBalanced p) h hs all).same q,
      haul_counts p hs q (All-tail (IsHaulBalanced p) h hs all),
      three_lists q h.began h.taken (expected_of p h.records),
      three_lists q (prefixes_of h.records) h.waiting h.put,
      count_of-append q h.began (flat_map (λ h. h.began) hs),
      count_of-append q h.taken (flat_map (λ h. h.taken) hs),
      count_of-append q h.waiting (flat_map (λ h. h.waiting) hs),
      count_of-append q h.put (flat_map (λ h. h.put) hs),
      prefixes-append p q h.records (flat_map (λ h. h.records) hs),
      expected-append p q h.records (flat_map (λ h. h.records) hs),
    )

pub all_hauls_are_even : AllHaulsAreEven
all_hauls_are_even p left hauls all q =
    let waiting : List (List ℕ) = waiting_of hauls in
    omega (
      arith,
      haul_counts p hauls q all.balanced,
      all.began q,
      all.put q,
      count_of-append q (flat_map (λ h. h.taken) hauls) left,
      standing_is [] waiting (records_of hauls) q,
    )
