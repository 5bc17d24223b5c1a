-- Keys of two numbers, and the elements that are found by them: beside a list stands the list of its elements' keys.
use Rattle.std.proofs.Common.{ℕ, ◌≡◌, ◌<◌, ◌+◌, ◌==◌, ◌&&◌, Bool, true, false, cond, not, List, [], ◌∷◌, length, map, Some, None, refl, sym, ap, ◌∙◌, arith, Contains}
use Rattle.std.specs.List.{find, list_any, position, position_or_len, slice_get}
use Rattle.std.proofs.Math.ListN.{length-map}
use Rattle.std.proofs.lemmas.Bool.{eqb-true, eq-eqb, and_parts, and_from, false_from_ne_true, true≢false}
use Rattle.std.proofs.lemmas.List.Folds.{find_at, list_any_at}
use Rattle.std.proofs.lemmas.List.Quantifiers.{position-Some}
use Rattle.std.proofs.lemmas.Map.Views.{Contains-from_any}
use Rattle.std.proofs.lemmas.Option.{cond_some, slice_get_past}
use Rattle.list_laws.proofs.Firsts.{position-past}

-- whether two keys are the same
abbrev pub is_key : ℕ × ℕ → ℕ × ℕ → Bool
is_key one other = (one.0 == other.0) && (one.1 == other.1)

is_key-true : (one other : ℕ × ℕ) → is_key one other ≡ true → one ≡ other
is_key-true one other is =
    let parts = and_parts _ _ is in
    let first : one.0 ≡ other.0 = eqb-true _ _ parts.0 in
    let second : one.1 ≡ other.1 = eqb-true _ _ parts.1 in
    λ j. (first j, second j)

is_key-same : (one other : ℕ × ℕ) → one ≡ other → is_key one other ≡ true
is_key-same one other same = and_from _ _ (eq-eqb _ _ (ap (λ k. k.0) same)) (eq-eqb _ _ (ap (λ k. k.1) same))

-- in whichever order they are compared
is_key-flip : (one other : ℕ × ℕ) (told : Bool) → is_key one other ≡ told → is_key one other ≡ is_key other one
is_key-flip one other true told = told ∙ sym (is_key-same other one (sym (is_key-true one other told)))
is_key-flip one other false told =
    told ∙ sym (false_from_ne_true _ (λ is. true≢false (sym (is_key-same one other (sym (is_key-true other one is))) ∙ told)))

-- a key stands in a list where it is found there
pub Contains-from_key : (key : ℕ × ℕ) (keys : List (ℕ × ℕ)) → list_any (is_key key) keys ≡ true → Contains keys key
Contains-from_key key keys found = Contains-from_any is_key-true key keys found

pub key-from_Contains : (key : ℕ × ℕ) (keys : List (ℕ × ℕ)) → Contains keys key → list_any (is_key key) keys ≡ true
key-from_Contains key keys there = list_any_at (is_key key) keys there.0 key there.1 (is_key-same _ _ (sym there.2))

pub key-from_absent : (key : ℕ × ℕ) (keys : List (ℕ × ℕ)) → ¬ Contains keys key → list_any (is_key key) keys ≡ false
key-from_absent key keys none = false_from_ne_true _ (λ found. none (Contains-from_key key keys found))

module _ {X : Type 0} (key_of : X → ℕ × ℕ) (key : ℕ × ℕ) where
  -- the first place of a key is that of the first element with it
  same_place : (xs : List X) → position_or_len (is_key key) (map key_of xs) ≡ position_or_len (λ x. is_key (key_of x) key) xs
  same_place [] = refl
  same_place (x ∷ xs) =
      ap (λ n. cond (not (is_key key (key_of x))) (1 + n) 0) (same_place xs)
      ∙ ap (λ b. cond (not b) (1 + position_or_len (λ x. is_key (key_of x) key) xs) 0) (is_key-flip key (key_of x) (is_key key (key_of x)) refl)

  -- so what stands at the place of its key is what is found by it
  pub found-Some : (xs : List X) (i : ℕ) → position (is_key key) (map key_of xs) ≡ Some i → find (λ x. is_key (key_of x) key) xs ≡ slice_get xs i
  found-Some xs i told = find_at (λ x. is_key (key_of x) key) xs ∙ ap (slice_get xs) (sym (same_place xs) ∙ (cond_some _ _ _ told).1)

  pub place-inside : (xs : List X) (i : ℕ) → position (is_key key) (map key_of xs) ≡ Some i → i < length xs
  place-inside xs i told = let at = position-Some (is_key key) (map key_of xs) i (0, 0) told in omega (arith, at.0, length-map xs key_of)

  -- and nothing is found where no place is told
  pub found-None : (xs : List X) → position (is_key key) (map key_of xs) ≡ None → find (λ x. is_key (key_of x) key) xs ≡ None
  found-None xs told =
      let past = position-past (is_key key) (map key_of xs) told in
      find_at (λ x. is_key (key_of x) key) xs ∙ slice_get_past xs _ (omega (arith, same_place xs, past, length-map xs key_of))
