-- What `find` gives in a list that ascends by a key.
use Rattle.std.proofs.Common.{ℕ, zero, suc, ◌<◌, ◌≡◌, ◌≢◌, ◌==◌, List, [], ◌∷◌, length, get_or, Some, None, refl, arith, All}
use Rattle.std.specs.List.{find}
use Rattle.std.proofs.lemmas.Bool.{eq-eqb, ne_eqb}
use Rattle.std.proofs.lemmas.List.Elements.{All-head, All-tail}
use Rattle.list_laws.proofs.Ascending.{Ascends, Ascends-head, Ascends-tail}

-- no element is found for a key that none has
pub find_key-none : {X : Type 0} (key : X → ℕ) (q : ℕ) (xs : List X) → All (λ y. key y ≢ q) xs → find (λ y. key y == q) xs ≡ None
find_key-none key q [] none = refl
find_key-none {X} key q (x ∷ xs) none =
    let P : X → Type 0 = λ y. key y ≢ q in
    rw (ne_eqb (key x) q (All-head P x xs none)) (find_key-none key q xs (All-tail P x xs none))

-- and each for its own
pub find_key-one : {X : Type 0} (key : X → ℕ) (xs : List X) (k : ℕ) (d : X) → Ascends key xs → k < length xs → find (λ y. key y == key (get_or xs k d)) xs ≡ Some (get_or xs k d)
find_key-one key [] k d up inside = absurd (omega arith)
find_key-one key (x ∷ xs) zero d up inside = rw (eq-eqb (key x) (key x) refl) refl
find_key-one {X} key (x ∷ xs) (suc k) d up inside =
    let below : key x < key (get_or xs k d) = Ascends-head key x xs up k d (omega arith) in
    let apart : key x ≢ key (get_or xs k d) = λ same. omega arith in
    rw (ne_eqb (key x) (key (get_or xs k d)) apart) (find_key-one key xs k d (Ascends-tail key x xs up) (omega arith))
