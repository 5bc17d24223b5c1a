-- What holds of all of some lists joined holds of all of each, and the other way round.
use Rattle.std.proofs.Common.{List, [], ◌∷◌, ◌++◌, All, Contains, flat_map}
use Rattle.std.proofs.lemmas.List.Elements.{All-nil, All-cons, All-contains, Contains-append_right}
use Rattle.list_laws.proofs.Halves.{All-front, All-back}
use Rattle.list_laws.proofs.Members.{Contains-head}
use Rattle.list_laws.proofs.Parts.{All-flat_map}

module _ {A B : Type 0} (P : B → Type 0) (f : A → List B) where
  pub All-joined : (xs : List A) → All (λ x. All P (f x)) xs → All P (flat_map f xs)
  All-joined xs each = All-flat_map P f xs (λ x there. All-contains (λ x. All P (f x)) xs x each there)

  pub All-parts : (xs : List A) → All P (flat_map f xs) → All (λ x. All P (f x)) xs
  All-parts [] all = All-nil (λ x. All P (f x))
  All-parts (x ∷ xs) all = All-cons (λ x. All P (f x)) x xs (All-front P (f x) (flat_map f xs) all) (All-parts xs (All-back P (f x) (flat_map f xs) all))

-- what was added last stands in a list
pub Contains-last : {X : Type 0} (xs : List X) (x : X) → Contains (xs ++ x ∷ []) x
Contains-last xs x = Contains-append_right xs (x ∷ []) x (Contains-head x [])
