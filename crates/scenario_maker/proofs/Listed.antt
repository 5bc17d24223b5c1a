-- How many elements a list has that stands in another.
use Rattle.std.proofs.Common.{ℕ, ◌*◌, ◌<◌, ◌≤◌, ◌≡◌, ◌≢◌, List, [], ◌∷◌, length, get_or, sym, ap, ◌∙◌, arith, flat_map, length-append}
use Rattle.std.specs.Prelude.{All, AllPairs, Contains, remove}
use Rattle.std.proofs.lemmas.Grind.{in_remove}
use Rattle.std.proofs.lemmas.List.{get_or_default}
use Rattle.std.proofs.lemmas.List.Edits.{length-remove}
use Rattle.std.proofs.lemmas.List.Elements.{All-head, All-tail}
use Rattle.list_laws.proofs.Pairs.{AllPairs-head, AllPairs-tail}

-- what stands at another place stays when one element is taken out
Contains-remove : {X : Type 0} (xs : List X) (i : ℕ) (y : X) → i < length xs → (found : Contains xs y) → found.0 ≢ i → Contains (remove xs i) y
Contains-remove xs i y inside found other = (in_remove xs i found.0 y inside found.1 (sym found.2) other).1

same_place : {X : Type 0} (xs : List X) (x y : X) (at : Contains xs x) (there : Contains xs y) → there.0 ≡ at.0 → x ≡ y
same_place xs x y at there same = sym at.2 ∙ get_or_default xs at.0 x y at.1 ∙ ap (λ k. get_or xs k y) (sym same) ∙ there.2

-- distinct elements of a list are no more than it has
pub length-le_listed : {X : Type 0} (qs xs : List X) → AllPairs (λ x y. x ≢ y) qs → All (Contains xs) qs → length qs ≤ length xs
length-le_listed [] xs apart listed = omega arith
length-le_listed {X} (q ∷ qs) xs apart listed =
    let first : Contains xs q = All-head (Contains xs) q qs listed in
    let P : X → Type 0 = λ y. q ≢ y in
    let others : All P qs = AllPairs-head (λ (x y : X). x ≢ y) q qs apart in
    let rest : All (Contains (remove xs first.0)) qs = λ k d lt.
    let found = All-tail (Contains xs) q qs listed k d lt in
    Contains-remove xs first.0 (get_or qs k d) first.1 found (λ same. others k d lt (same_place xs q (get_or qs k d) first found same)) in
    let more = length-le_listed qs (remove xs first.0) (AllPairs-tail (λ (x y : X). x ≢ y) q qs apart) rest in
    omega (arith, more, length-remove xs first.0 first.1)

-- lists of at most k elements, joined
pub length-flat_map-le : {A B : Type 0} (f : A → List B) (k : ℕ) → ((x : A) → length (f x) ≤ k) → (xs : List A) → length (flat_map f xs) ≤ k * length xs
length-flat_map-le f k each [] = omega arith
length-flat_map-le f k each (x ∷ xs) =
    let more = length-flat_map-le f k each xs in
    rw length-append (omega (arith, each x, more))
