-- Columns of a draft, seen as lists, and a name that joins its set.
use Rattle.std.proofs.Common.{◌≡◌, ℕ, ◌+◌, ◌<◌, Bool, false, List, [], ◌∷◌, ◌++◌, map, length, take, Option, None, Some, refl, sym, ◌∙◌, arith}
use Rattle.std.specs.List.{list_any, position}
use Rattle.std.specs.Option.{option_map}
use Rattle.std.specs.Prelude.{is_none}
use Rattle.std.specs.Str.{bytes_eq}
use Rattle.std.proofs.lemmas.List.{map_push, take_more, length-map}
use Rattle.std.proofs.lemmas.List.Folds.{list_any_none}
use Rattle.std.proofs.lemmas.List.Sums.{fails_before_first}
use Rattle.search_grid.specs.Moves.{moves_from}
use Rattle.indexmap.specs.IndexSet.{insert_key}
use Rattle.list_laws.proofs.Firsts.{position-past}
use Rattle.list_laws.proofs.Mapped.{list_any-map}

-- where no place is found, no element passes
pub none_passes : {X : Type 0} (p : X → Bool) (xs : List X) → position p xs ≡ None → list_any p xs ≡ false
none_passes p xs e = list_any_none p xs (λ k d lt. fails_before_first p xs k d (omega (arith, position-past p xs e)))

-- a name that isn't there goes last
pub inserted_last : {K : Type 0} (eq : K → K → Bool) (view : K → List ℕ) (keys : List K) (name : K) → ((k : K) → eq name k ≡ bytes_eq (view name) (view k)) → position (bytes_eq (view name)) (map view keys) ≡ None → map view (insert_key eq keys name) ≡ map view keys ++ view name ∷ []
inserted_last eq view keys name same new =
    let none : list_any (λ k. bytes_eq (view name) (view k)) keys ≡ false = sym (list_any-map (bytes_eq (view name)) view keys) ∙ none_passes (bytes_eq (view name)) (map view keys) new in
    let none_eq : list_any (eq name) keys ≡ false = any_same (eq name) (λ k. bytes_eq (view name) (view k)) keys same ∙ none in
    rw none_eq (map_push view keys name)
  where
    any_same : {X : Type 0} (p q : X → Bool) (xs : List X) → ((x : X) → p x ≡ q x) → list_any p xs ≡ list_any q xs
    any_same p q [] h = refl
    any_same p q (x ∷ xs) h = rw (h x, any_same p q xs h) refl

-- the row of the next position joins those before it
pub moves_next : (rows : List (List ℕ)) (c : ℕ) → c < length rows → take (c + 1) rows ≡ take c rows ++ moves_from rows c ∷ []
unfolding moves_from
moves_next rows c lt = take_more rows c [] lt

-- an option that is mapped is none where it was
pub none_kept : {X Y : Type 0} (f : X → Y) (os : List (Option X)) → list_any (λ o. is_none o) (map (option_map f) os) ≡ list_any (λ o. is_none o) os
none_kept f [] = refl
none_kept f (None ∷ os) = refl
none_kept f (Some x ∷ os) = none_kept f os

pub ruleset column_steps = (length-map)
