-- Lists that functions make alike.
use Rattle.std.proofs.Common.{◌≡◌, List, [], ◌∷◌, ◌++◌, map, flat_map, refl, ap, ◌∙◌, All}
use Rattle.std.proofs.lemmas.List.{map-append}
use Rattle.std.proofs.lemmas.List.Elements.{All-head, All-tail}

-- functions that agree on a list make the same list of it
pub map_agree : {A B : Type 0} (f g : A → B) (xs : List A) → All (λ x. f x ≡ g x) xs → map f xs ≡ map g xs
map_agree f g [] each = refl
map_agree f g (x ∷ xs) each =
    let first : f x ≡ g x = All-head (λ x. f x ≡ g x) x xs each in
    let rest : map f xs ≡ map g xs = map_agree f g xs (All-tail (λ x. f x ≡ g x) x xs each) in
    cc

-- a function over joined lists goes over each of them
pub map-flat_map : {A B C : Type 0} (f : B → C) (g : A → List B) (xs : List A) → map f (flat_map g xs) ≡ flat_map (λ x. map f (g x)) xs
map-flat_map f g [] = refl
map-flat_map f g (x ∷ xs) = map-append f (g x) (flat_map g xs) ∙ ap (λ vs. map f (g x) ++ vs) (map-flat_map f g xs)
