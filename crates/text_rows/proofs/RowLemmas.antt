-- The text of rows of fields.
use Rattle.std.proofs.Common.{◌≡◌, List, [], ◌∷◌, ◌++◌, map, sym, refl, ◌∙◌, ap, append_assoc, ℕ, ◌<◌, ◌+◌, length, get_or, take, add-one, ◌≤◌, ◌*◌, arith, length-append, All}
use Rattle.std.specs.List.{join_with_byte, flat_map}
use Rattle.std.proofs.lemmas.List.{append-nil, map-append}
use Rattle.std.proofs.Math.Seq.{take-suc}
use Rattle.std.proofs.lemmas.List.Elements.{All-head, All-tail}
use Rattle.text_rows.specs.Rows.{text_of, spaced}

-- a row begins with its first field, and each other field has a blank before it
pub join-fields : (f : List ℕ) (fs : List (List ℕ)) → join_with_byte 32 (f ∷ fs) ≡ f ++ spaced fs
join-fields f [] = sym (append-nil f)
join-fields f (g ∷ fs) = ap (λ (x : List ℕ). f ++ 32 ∷ x) (join-fields g fs)

pub text_of-append : (rows more : List (List (List ℕ))) → text_of (rows ++ more) ≡ text_of rows ++ text_of more
text_of-append [] more = refl
text_of-append (row ∷ rows) more = ap (λ (x : List ℕ). join_with_byte 32 row ++ 10 ∷ x) (text_of-append rows more) ∙ sym (append_assoc (join_with_byte 32 row) (10 ∷ text_of rows) (text_of more))

-- one row for each of these
pub text_of-map : {X : Type 0} (f : X → List (List ℕ)) (xs : List X) → text_of (map f xs) ≡ flat_map (λ x. join_with_byte 32 (f x) ++ 10 ∷ []) xs
text_of-map f [] = refl
text_of-map f (x ∷ xs) = ap (λ (t : List ℕ). join_with_byte 32 (f x) ++ 10 ∷ t) (text_of-map f xs) ∙ sym (append_assoc (join_with_byte 32 (f x)) (10 ∷ []) _)

-- one element more
pub take_one_more : {X : Type 0} (xs : List X) (i : ℕ) (d : X) → i < length xs → take (i + 1) xs ≡ take i xs ++ get_or xs i d ∷ []
take_one_more xs i d lt = rw add-one (take-suc xs i d lt)

-- one row more
pub text_of-more : {X : Type 0} (f : X → List (List ℕ)) (xs : List X) (i : ℕ) (d : X) → i < length xs → text_of (map f (take (i + 1) xs)) ≡ text_of (map f (take i xs)) ++ text_of (f (get_or xs i d) ∷ [])
text_of-more f xs i d lt = ap (λ ys. text_of (map f ys)) (take_one_more xs i d lt) ∙ ap text_of (map-append f (take i xs) _) ∙ text_of-append (map f (take i xs)) _

-- fields of at most k bytes, each with a blank before it
pub spaced_short : (k : ℕ) (fs : List (List ℕ)) → All (λ f. length f ≤ k) fs → length (spaced fs) ≤ length fs * (k + 1)
spaced_short k [] each = omega arith
spaced_short k (f ∷ fs) each =
    let here = All-head (λ g. length g ≤ k) f fs each in
    let rest = spaced_short k fs (All-tail (λ g. length g ≤ k) f fs each) in
    omega (arith, length-append f (spaced fs), here, rest)
