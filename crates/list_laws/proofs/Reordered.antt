-- What the order of a list's elements neither makes nor mends, and what can't hold of all elements and fail at one.
use Rattle.std.proofs.Common.{◌≡◌, Bool, List, All, Any, count_by, if◌then◌else◌}
use Rattle.std.specs.List.Sorted.{IsPermutation}
use Rattle.std.proofs.lemmas.List.Sorted.{sum_by-IsPermutation, Contains-permutation}

pub Any-permutation : {X : Type 0} (P : X → Type 0) (xs ys : List X) → IsPermutation xs ys → Any P xs → Any P ys
Any-permutation P xs ys same any = let there = Contains-permutation xs ys any.1 same (any.0, any.2, any.3) in (there.0, any.1, there.1, there.2, any.4)

pub count_by-permutation : {X : Type 0} (p : X → Bool) (xs ys : List X) → IsPermutation xs ys → count_by p ys ≡ count_by p xs
count_by-permutation p xs ys same = sum_by-IsPermutation (λ x. if p x then 1 else 0) xs ys same

-- no element is an exception to what holds of all
pub none_fails : {X : Type 0} (P Q : X → Type 0) → ((x : X) → P x → Q x → ⊥) → (xs : List X) → All P xs → Any Q xs → ⊥
none_fails {X} P Q apart xs all any =
    let here = all any.0 any.1 any.2 in
    apart any.1 (rw any.3 at here) any.4
