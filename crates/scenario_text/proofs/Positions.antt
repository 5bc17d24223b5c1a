-- The first place at which a test passes, in a list that another list is mapped to.
use Rattle.std.proofs.Common.{◌≡◌, ℕ, ◌<◌, ◌+◌, Bool, not, cond, List, [], ◌∷◌, length, map, Some, refl, ap}
use Rattle.std.specs.Prelude.{position}
use Rattle.std.specs.List.{prefix_len}
use Rattle.std.proofs.lemmas.List.{length-map}
use Rattle.std.proofs.lemmas.List.Quantifiers.{position-Some}
use Rattle.list_laws.proofs.Mapped.{map-map}

prefix_len_map : {X Y : Type 0} (f : X → Y) (p : Y → Bool) (xs : List X) → prefix_len p (map f xs) ≡ prefix_len (λ x. p (f x)) xs
prefix_len_map f p [] = refl
prefix_len_map f p (x ∷ xs) = ap (λ (n : ℕ). cond (p (f x)) (1 + n) 0) (prefix_len_map f p xs)

pub position_map : {X Y : Type 0} (f : X → Y) (p : Y → Bool) (xs : List X) → position p (map f xs) ≡ position (λ x. p (f x)) xs
position_map f p xs = rw (prefix_len_map f (λ y. not (p y)) xs, length-map xs f) refl

pub position_within : {X : Type 0} (p : X → Bool) (xs : List X) (i : ℕ) (d : X) → position p xs ≡ Some i → i < length xs
position_within p xs i d e = (position-Some p xs i d e).0

pub ruleset names_steps = (map-map)
