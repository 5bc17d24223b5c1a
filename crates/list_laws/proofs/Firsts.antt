-- The first element that passes a test.
use Rattle.std.proofs.Common.{◌≡◌, ◌<◌, ◌≤◌, ◌⊎◌, ℕ, Bool, true, false, List, [], ◌∷◌, length, get_or, Some, None, refl, sym, ap, ◌∙◌, arith, inl, inr, Contains}
use Rattle.std.specs.List.{find, position, position_or_len, slice_get}
use Rattle.std.proofs.lemmas.Bool.{lt-ltb, le-ltb, cases_lt, cond-true}
use Rattle.std.proofs.lemmas.List.Folds.{find_at}
use Rattle.std.proofs.lemmas.List.Sums.{position_or_len_is}
use Rattle.std.proofs.lemmas.Option.{slice_get-get_or}
use Rattle.list_laws.proofs.Members.{Contains-head, Contains-tail}

-- the first place that passes a test is found
pub position-first : {X : Type 0} (p : X → Bool) (xs : List X) (i : ℕ) (d : X) → i < length xs → ((k : ℕ) → k < i → p (get_or xs k d) ≡ false) → p (get_or xs i d) ≡ true → position p xs ≡ Some i
position-first p xs i d lt before here =
    let at : position_or_len p xs ≡ i = position_or_len_is p xs i d (omega arith) before (λ _. here) in
    rw (at, lt-ltb i (length xs) lt) refl

-- and nothing is where no place passes
pub position-none : {X : Type 0} (p : X → Bool) (xs : List X) (d : X) → ((k : ℕ) → k < length xs → p (get_or xs k d) ≡ false) → position p xs ≡ None
position-none p xs d fails =
    let at : position_or_len p xs ≡ length xs = position_or_len_is p xs (length xs) d (omega arith) fails (λ lt. absurd (omega arith)) in
    rw (at, le-ltb (length xs) (length xs) (omega arith)) refl

-- where none is found, all places are passed
pub position-past : {X : Type 0} (p : X → Bool) (xs : List X) → position p xs ≡ None → length xs ≤ position_or_len p xs
position-past p xs told =
    elim (cases_lt (position_or_len p xs) (length xs)) [
      | inl inside ↦ let bad : Some (position_or_len p xs) ≡ None = sym (cond-true _ _ _ (lt-ltb _ _ inside)) ∙ told in absurd (let wrong : ⊥ = cc in wrong)
      | inr past ↦ past
    ]

-- the first element that passes is the one that is found
pub find-first : {X : Type 0} (p : X → Bool) (xs : List X) (i : ℕ) (d : X) → i < length xs → ((k : ℕ) → k < i → p (get_or xs k d) ≡ false) → p (get_or xs i d) ≡ true → find p xs ≡ Some (get_or xs i d)
find-first p xs i d lt before here =
    let at : position_or_len p xs ≡ i = position_or_len_is p xs i d (omega arith) before (λ _. here) in
    find_at p xs ∙ ap (slice_get xs) at ∙ slice_get-get_or xs i d lt

-- what is found stands in the list
found_next : {X : Type 0} (p : X → Bool) (y : X) (ys : List X) → ((x : X) × Contains ys x × (find p ys ≡ Some x)) ⊎ (find p ys ≡ None) → (b : Bool) → p y ≡ b →
    ((x : X) × Contains (y ∷ ys) x × (find p (y ∷ ys) ≡ Some x)) ⊎ (find p (y ∷ ys) ≡ None)
found_next p y ys later true e = inl (y, Contains-head y ys, rw e refl)
found_next p y ys (inl (x, there, found)) false e = inl (x, Contains-tail y x ys there, rw e found)
found_next p y ys (inr none) false e = inr (rw e none)

pub found_or_none : {X : Type 0} (p : X → Bool) (xs : List X) → ((x : X) × Contains xs x × (find p xs ≡ Some x)) ⊎ (find p xs ≡ None)
found_or_none p [] = inr refl
found_or_none p (y ∷ ys) = found_next p y ys (found_or_none p ys) (p y) refl
