-- Which elements stand in lists that are made of others.
use Rattle.std.proofs.Common.{zero, suc, ◌<◌, ◌≡◌, ◌⊎◌, Bool, true, List, [], ◌∷◌, map, length, inl, inr, sym, refl, ap, ◌∙◌, subst, arith, Contains, flat_map}
use Rattle.std.specs.List.{list_all}
use Rattle.std.proofs.lemmas.Bool.{and_parts}
use Rattle.std.proofs.lemmas.List.Elements.{Contains-append_left, Contains-append_right, Contains-append_cases}
use Rattle.std.proofs.lemmas.List.{length-map, get_or-map}

-- the first element stands in its list
pub Contains-head : {X : Type 0} (x : X) (xs : List X) → Contains (x ∷ xs) x
Contains-head x xs = (0, omega arith, refl)

-- a list that is longer by one keeps its elements
pub Contains-tail : {X : Type 0} (x y : X) (xs : List X) → Contains xs y → Contains (x ∷ xs) y
Contains-tail x y xs h = Contains-append_right (x ∷ []) xs y h

-- nothing stands in the empty list
pub Contains-nil : {X : Type 0} (y : X) → Contains [] y → ⊥
Contains-nil y h = absurd (omega (arith, h.1))

-- an element is the first one, or stands in the rest
pub Contains-cons_cases : {X : Type 0} (x y : X) (xs : List X) → Contains (x ∷ xs) y → (x ≡ y) ⊎ Contains xs y
Contains-cons_cases x y xs (zero, l, e) = inl e
Contains-cons_cases x y xs (suc k, l, e) = inr (k, omega (arith, l), e)

-- a changed element stands in the list of changed elements
pub Contains-map : {A B : Type 0} (f : A → B) (xs : List A) (x : A) → Contains xs x → Contains (map f xs) (f x)
Contains-map f xs x h = (h.0, (rw length-map h.1), get_or-map f xs h.0 x (f x) h.1 ∙ ap f h.2)

-- what stands in a list of changed elements is one of them, changed
pub Contains-map_cases : {A B : Type 0} (f : A → B) (xs : List A) (y : B) → Contains (map f xs) y → (x : A) × Contains xs x × (f x ≡ y)
Contains-map_cases f [] y h = absurd (Contains-nil y h)
Contains-map_cases f (x ∷ xs) y h = elim (Contains-cons_cases (f x) y (map f xs) h) [
  | inl e ↦ (x, Contains-head x xs, e)
  | inr k ↦ let found = Contains-map_cases f xs y k in (found.0, Contains-tail x found.0 xs found.1, found.2)
]

-- what stands in the list of one element stands in all of them joined
pub Contains-flat_map : {A B : Type 0} (f : A → List B) (xs : List A) (x : A) (y : B) → Contains xs x → Contains (f x) y → Contains (flat_map f xs) y
Contains-flat_map f [] x y h g = absurd (Contains-nil x h)
Contains-flat_map f (a ∷ xs) x y h g = elim (Contains-cons_cases a x xs h) [
  | inl e ↦ let P : _ → Type 0 = λ z. Contains (f z) y in Contains-append_left (f a) (flat_map f xs) y (subst P (sym e) g)
  | inr k ↦ Contains-append_right (f a) (flat_map f xs) y (Contains-flat_map f xs x y k g)
]

-- what stands in joined lists stands in the list of one element
pub Contains-flat_map_cases : {A B : Type 0} (f : A → List B) (xs : List A) (y : B) → Contains (flat_map f xs) y → (x : A) × Contains xs x × Contains (f x) y
Contains-flat_map_cases f [] y h = absurd (Contains-nil y h)
Contains-flat_map_cases f (a ∷ xs) y h = elim (Contains-append_cases (f a) (flat_map f xs) y h) [
  | inl k ↦ (a, Contains-head a xs, k)
  | inr k ↦ let found = Contains-flat_map_cases f xs y k in (found.0, Contains-tail a found.0 xs found.1, found.2)
]

-- a list with an element isn't empty
pub Contains-some : {X : Type 0} (xs : List X) (x : X) → Contains xs x → 0 < length xs
Contains-some xs x h = omega (arith, h.1)

-- what holds by test of all elements holds of each
pub list_all-contains : {X : Type 0} (test : X → Bool) (xs : List X) (x : X) → list_all test xs ≡ true → Contains xs x → test x ≡ true
list_all-contains test [] x all h = absurd (Contains-nil x h)
list_all-contains test (a ∷ xs) x all h =
    let parts = and_parts (test a) (list_all test xs) all in
    elim (Contains-cons_cases a x xs h) [ inl e ↦ ap test (sym e) ∙ parts.0 | inr k ↦ list_all-contains test xs x parts.1 k ]
