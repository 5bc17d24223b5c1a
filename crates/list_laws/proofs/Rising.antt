-- The keys of a list that ascends.
use Rattle.std.proofs.Common.{◌<◌, ◌+◌, ℕ, List, ◌∷◌, [], length, map, arith}
use Rattle.std.specs.List.Sorted.{IsStrictlyIncreasing}
use Rattle.std.proofs.lemmas.List.{length-map, get_or-map}
use Rattle.list_laws.proofs.Ascending.{Ascends}

pub increasing_from_ascends : {X : Type 0} (key : X → ℕ) (xs : List X) → Ascends key xs → IsStrictlyIncreasing (map key xs)
increasing_from_ascends key [] up k inside = absurd (omega arith)
increasing_from_ascends key (x ∷ xs) up k inside =
    let next : k + 1 < length (x ∷ xs) = omega (arith, length-map (x ∷ xs) key) in
    rw (get_or-map key (x ∷ xs) k x 0 (omega arith), get_or-map key (x ∷ xs) (k + 1) x 0 next) (up k (k + 1) x (omega arith) next)
