-- The names of the positions of both.
use Rattle.std.proofs.Common.{◌≡◌, ℕ, ◌*◌, ◌<◌, ◌≤◌, true, List, [], ◌∷◌, ◌++◌, map, length, get_or, take, refl, sym, ap, ◌∙◌, arith, append_assoc, All, get_or-take}
use Rattle.std.specs.Fmt.{decimal}
use Rattle.std.specs.Int.{IsInRange}
use Rattle.std.specs.List.{range_with_len}
use Rattle.std.proofs.lemmas.Fmt.{length-decimal-le}
use Rattle.std.proofs.lemmas.List.{length-append, length-take-le}
use Rattle.std.proofs.lemmas.List.Elements.{All-cons, All-append, All-weaker, All-head, All-tail, All-map}
use Rattle.std.proofs.lemmas.List.FromFn.{length-map-range_with_len, get_or-map-range_with_len}
use Rattle.std.proofs.lemmas.List.Sums.{list_all-from_AllPass}
use Rattle.list_laws.proofs.Ranges.{All-range}
use Rattle.exact_parts.proofs.Decimals.{All-decimal, decimal_tells}
use Rattle.search_model.specs.Names.{IsName, AreNames, is_name_byte, name_in, IsRepeated}
use Rattle.search_model.proofs.NameLemmas.{digits_are_of_names}
use Rattle.duo_search.specs.Product.{product_name, product_names, first_at, second_at}
use Rattle.duo_search.proofs.Numbers.{first_within, second_within, both_is}

short : (n : ℕ) → n < 256 → length (decimal n) ≤ 3
short n small = length-decimal-le 3 n (omega arith) (omega arith) (omega arith)

-- a name of two numbers of a byte is a name
pub name_right : (i j : ℕ) → i < 256 → j < 256 → IsName (product_name i j)
name_right i j i_small j_small =
    let P : ℕ → Type 0 = λ b. is_name_byte b ≡ true in
    let long = length-append (decimal i) (45 ∷ decimal j) in
    let bytes : All P (product_name i j) =
    All-cons P 112 _ refl (All-append P (decimal i) (45 ∷ decimal j) (digits_are_of_names i i_small) (All-cons P 45 (decimal j) refl (digits_are_of_names j j_small))) in
    record {
      some = omega arith;
      short = omega (arith, long, short i i_small, short j j_small);
      bytes = list_all-from_AllPass is_name_byte (product_name i j) bytes;
    }

-- its text, piece by piece
pub name_text : (i j : ℕ) → ((([] ++ 112 ∷ []) ++ decimal i) ++ 45 ∷ []) ++ decimal j ≡ product_name i j
name_text i j = ap (λ (text : List ℕ). 112 ∷ text) (append_assoc (decimal i) (45 ∷ []) (decimal j))

-- no digit is the dash between them
abbrev HasNoDash : List ℕ → Type 0
HasNoDash text = All (λ b. b ≡ 45 → ⊥) text

no_dash : (n : ℕ) → n < 256 → HasNoDash (decimal n)
no_dash n small = All-weaker (IsInRange 48 57) (λ b. b ≡ 45 → ⊥) (λ b range e. absurd (omega (arith, range.0, range.1, e))) (decimal n) (All-decimal n (omega arith))

-- so it tells where the first ends
cut_once : (xs ys us vs : List ℕ) → HasNoDash xs → HasNoDash ys → xs ++ 45 ∷ us ≡ ys ++ 45 ∷ vs → (xs ≡ ys) × (us ≡ vs)
cut_once [] [] us vs free free' e = (refl, cc)
cut_once [] (y ∷ ys) us vs free free' e = absurd (All-head (λ b. b ≡ 45 → ⊥) y ys free' (let same : y ≡ 45 = cc in same))
cut_once (x ∷ xs) [] us vs free free' e = absurd (All-head (λ b. b ≡ 45 → ⊥) x xs free (let same : x ≡ 45 = cc in same))
cut_once (x ∷ xs) (y ∷ ys) us vs free free' e =
    let rest : xs ++ 45 ∷ us ≡ ys ++ 45 ∷ vs = cc in
    let head : x ≡ y = cc in
    let parts = cut_once xs ys us vs (All-tail (λ b. b ≡ 45 → ⊥) x xs free) (All-tail (λ b. b ≡ 45 → ⊥) y ys free') rest in
    let tail : xs ≡ ys = parts.0 in
    (cc, parts.1)

-- two pairs of one name are the same
name_tells : (i j k l : ℕ) → i < 256 → j < 256 → k < 256 → l < 256 → product_name i j ≡ product_name k l → (i ≡ k) × (j ≡ l)
name_tells i j k l i_small j_small k_small l_small e =
    let behind : decimal i ++ 45 ∷ decimal j ≡ decimal k ++ 45 ∷ decimal l = cc in
    let parts = cut_once (decimal i) (decimal k) (decimal j) (decimal l) (no_dash i i_small) (no_dash k k_small) behind in
    (decimal_tells i k (omega arith) (omega arith) parts.0, decimal_tells j l (omega arith) (omega arith) parts.1)

-- names of numbers that tell their number aren't repeated
apart_by_number : (f : ℕ → List ℕ) (n : ℕ) → ((j k : ℕ) → j < n → k < n → f j ≡ f k → j ≡ k) → (c : ℕ) → ¬ IsRepeated (map f (range_with_len 0 n)) c
apart_by_number f n tells c again =
    let names = map f (range_with_len 0 n) in
    let long : length names ≡ n = length-map-range_with_len f 0 n in
    let within : c < n = omega (arith, again.0, long) in
    let place : again.1.0 < c = omega (arith, again.1.1, length-take-le c names (omega (arith, again.0))) in
    let at : get_or (take c names) again.1.0 (name_in names c) ≡ get_or names again.1.0 (name_in names c) = get_or-take c names again.1.0 (name_in names c) place in
    let earlier : get_or names again.1.0 (name_in names c) ≡ f again.1.0 = get_or-map-range_with_len f 0 n again.1.0 again.1.0 (name_in names c) (omega arith) (omega arith) in
    let here : name_in names c ≡ f c = get_or-map-range_with_len f 0 n c c [] within (omega arith) in
    let same : f again.1.0 ≡ f c = sym earlier ∙ sym at ∙ again.1.2 ∙ here in
    let equal : again.1.0 ≡ c = tells again.1.0 c (omega arith) within same in
    omega (arith, place, equal)

-- the names of all pairs are names, and differ
pub names_right : (P : ℕ) → P ≤ 14 → AreNames (P * P) (product_names P)
names_right P few =
    let f : ℕ → List ℕ = λ n. product_name (first_at P n) (second_at P n) in
    let all = range_with_len 0 (P * P) in
    record {
      count = length-map-range_with_len f 0 (P * P);
      each = All-map IsName f all (All-range (λ n. IsName (f n)) 0 (P * P) (λ n from to.
          let inside : n < P * P = omega (arith, to) in
          name_right (first_at P n) (second_at P n) (omega (arith, first_within P n inside)) (omega (arith, second_within P n inside))));
      differ = apart_by_number f (P * P) (λ j k j_in k_in e.
          let parts =
          name_tells (first_at P j) (second_at P j) (first_at P k) (second_at P k) (omega (arith, first_within P j j_in)) (omega (arith, second_within P j j_in)) (omega (arith, first_within P k k_in)) (omega (arith, second_within P k k_in)) e in
          sym (both_is P j) ∙ rw (parts.0, parts.1) refl ∙ both_is P k);
    }
