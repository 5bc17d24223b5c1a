-- Elements by their places, in lists that grow, shrink or are written to.
use Rattle.std.proofs.Common.{◌≡◌, ℕ, zero, suc, ◌+◌, ◌-◌, ◌<◌, List, [], ◌∷◌, ◌++◌, length, map, take, drop, reverse, set, get_or, sym, refl, ap, ◌∙◌, subst, arith, append_assoc, Some, slice_get, All, length-append}
use Rattle.std.specs.Option.{option_map}
use Rattle.std.proofs.lemmas.List.{get_or-map, get_or-reverse, length-reverse, map-set, set-get_or, take_at, take_more, take-append-drop, take-take}
use Rattle.std.proofs.lemmas.List.Elements.{All-head}
use Rattle.std.proofs.lemmas.Option.{slice_get-map, slice_get_read, slice_get_within, slice_get-get_or, get_or_from_slice_get, same_Some}
use Rattle.list_laws.proofs.Halves.{All-back}
use Rattle.steal_pool.specs.Pools.{EachAt}

-- what is kept of an element that was read
pub map_read : {A B : Type 0} (f : A → B) (xs : List A) (i : ℕ) (a : A) (d : B) → i < length xs → a ≡ get_or xs i a → get_or (map f xs) i d ≡ f a
map_read f xs i a d here read = get_or-map f xs i a d here ∙ ap f (sym read)

pub slice_get_map_read : {A B : Type 0} (f : A → B) (xs : List A) (i : ℕ) (a : A) → i < length xs → a ≡ get_or xs i a → slice_get (map f xs) i ≡ Some (f a)
slice_get_map_read f xs i a here read = slice_get-map f xs i ∙ ap (option_map f) (slice_get_read xs (length xs) i a refl here read)

-- a write that changes nothing of what is kept
pub map_kept : {A B : Type 0} (f : A → B) (xs : List A) (i : ℕ) (a b : A) → i < length xs → a ≡ get_or xs i a → f b ≡ f a → map f (set xs i b) ≡ map f xs
map_kept f xs i a b here read same =
    map-set f xs i b ∙ ap (set (map f xs) i) (same ∙ sym (map_read f xs i a (f a) here read)) ∙ set-get_or (map f xs) i (f a)

-- the element in the middle of a list
pub slice_get_at : {A : Type 0} (xs ys : List A) (a : A) → slice_get (xs ++ a ∷ ys) (length xs) ≡ Some a
slice_get_at [] ys a = refl
slice_get_at (x ∷ xs) ys a = slice_get_at xs ys a

-- an element at the front of a longer list
pub slice_get_front : {A : Type 0} (xs ys : List A) (i : ℕ) → i < length xs → slice_get (xs ++ ys) i ≡ slice_get xs i
slice_get_front [] ys i here = absurd (omega arith)
slice_get_front (x ∷ xs) ys zero here = refl
slice_get_front (x ∷ xs) ys (suc i) here = slice_get_front xs ys i (omega arith)

-- elements of the front and of the rest of a list
pub slice_get-take : {A : Type 0} (xs : List A) (n i : ℕ) → i < n → slice_get (take n xs) i ≡ slice_get xs i
slice_get-take [] zero i here = refl
slice_get-take [] (suc n) i here = refl
slice_get-take (x ∷ xs) zero i here = absurd (omega arith)
slice_get-take (x ∷ xs) (suc n) zero here = refl
slice_get-take (x ∷ xs) (suc n) (suc i) here = slice_get-take xs n i (omega arith)

pub slice_get-drop : {A : Type 0} (xs : List A) (n i : ℕ) → slice_get (drop n xs) i ≡ slice_get xs (n + i)
slice_get-drop xs zero i = let e : i ≡ 0 + i = omega arith in ap (λ m. slice_get xs m) e
slice_get-drop [] (suc n) i = refl
slice_get-drop (x ∷ xs) (suc n) i = let e : suc n + i ≡ suc (n + i) = omega arith in slice_get-drop xs n i ∙ ap (λ m. slice_get (x ∷ xs) m) (sym e)

-- one element more of the front
pub take_one_more : {A : Type 0} (xs : List A) (n : ℕ) (a : A) → slice_get xs n ≡ Some a → take (n + 1) xs ≡ take n xs ++ a ∷ []
take_one_more xs n a e = take_more xs n a (slice_get_within xs n a e) ∙ ap (λ b. take n xs ++ b ∷ []) (get_or_from_slice_get xs n a a e)

-- a list is its front, an element and the rest
pub put_together : {A : Type 0} (xs : List A) (n : ℕ) (a : A) → slice_get xs n ≡ Some a → take n xs ++ a ∷ drop (n + 1) xs ≡ xs
put_together xs n a e =
    sym (append_assoc (take n xs) (a ∷ []) (drop (n + 1) xs)) ∙ ap (λ l. l ++ drop (n + 1) xs) (sym (take_one_more xs n a e)) ∙ take-append-drop (n + 1) xs

-- what holds of all elements holds of the one in the middle
pub All-middle : {A : Type 0} (P : A → Type 0) (all xs ys : List A) (a : A) → all ≡ xs ++ a ∷ ys → All P all → P a
All-middle P all xs ys a is each = All-head P a ys (All-back P xs (a ∷ ys) (subst (All P) is each))

-- what holds of each element and its place: with one more, and without the last
pub EachAt-nil : {A : Type 0} (P : ℕ → A → Type 0) → EachAt [] P
EachAt-nil P i a e = absurd (cc e)

pub EachAt-push : {A : Type 0} (P : ℕ → A → Type 0) (xs : List A) (a : A) → EachAt xs P → P (length xs) a → EachAt (xs ++ a ∷ []) P
EachAt-push P [] a each here zero b e = subst (P 0) (same_Some a b e) here
EachAt-push P [] a each here (suc i) b e = absurd (cc e)
EachAt-push P (x ∷ xs) a each here zero b e = each zero b e
EachAt-push P (x ∷ xs) a each here (suc i) b e = EachAt-push (λ j c. P (suc j) c) xs a (λ j c q. each (suc j) c q) here i b e

pub EachAt-front : {A : Type 0} (P : ℕ → A → Type 0) (xs ys : List A) → EachAt (xs ++ ys) P → EachAt xs P
EachAt-front P xs ys each i a e = each i a (slice_get_front xs ys i (slice_get_within xs i a e) ∙ e)

-- a list whose last element was taken away
pub record Popped {A : Type 0} (all rest : List A) (last : A) : Type 0 where
  pub longer : length all ≡ length rest + 1
  pub at : slice_get all (length rest) ≡ Some last

pub popped : {A : Type 0} (all rest : List A) (last : A) → all ≡ rest ++ last ∷ [] → Popped all rest last
popped all rest last e = record {
  longer = ap length e ∙ length-append rest (last ∷ []);
  at = ap (λ l. slice_get l (length rest)) e ∙ slice_get_at rest [] last;
}

-- the front of a front, and its last element
pub take_front : {A : Type 0} (xs all : List A) (a : A) (n : ℕ) → length xs ≡ n → xs ++ a ∷ [] ≡ take (n + 1) all → (xs ≡ take n all) × (slice_get all n ≡ Some a)
take_front xs all a n long e = (
  sym (take_at xs (a ∷ []) n long) ∙ ap (take n) e ∙ take-take n (n + 1) all (omega arith),
  sym (slice_get-take all (n + 1) n (omega arith)) ∙ ap (λ l. slice_get l n) (sym e) ∙ ap (slice_get (xs ++ a ∷ [])) (sym long) ∙ slice_get_at xs [] a,
)

-- an element of a list that is turned round
pub slice_get-reverse : {A : Type 0} (xs : List A) (i : ℕ) (a : A) → slice_get (reverse xs) i ≡ Some a → (i < length xs) × (slice_get xs (length xs - 1 - i) ≡ Some a)
slice_get-reverse xs i a e =
    let within : i < length (reverse xs) = slice_get_within (reverse xs) i a e in
    let here : i < length xs = omega (arith, within, length-reverse xs) in
    let same : get_or (reverse xs) i a ≡ a = get_or_from_slice_get (reverse xs) i a a e in
    (here, slice_get-get_or xs (length xs - 1 - i) a (omega arith) ∙ ap Some (sym (get_or-reverse xs i a here) ∙ same))
