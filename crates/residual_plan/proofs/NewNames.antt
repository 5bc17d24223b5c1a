-- The names of the scenario that forces a prefix.
use Rattle.std.proofs.Common.{◌≡◌, ℕ, ◌<◌, ◌≤◌, ◌+◌, ◌-◌, ◌/◌, ◌%◌, List, [], ◌∷◌, ◌++◌, length, get_or, take, refl, sym, ap, ◌∙◌, arith, subst, inl, inr, get_or-take, length-append}
use Rattle.std.specs.Prelude.{Contains}
use Rattle.std.specs.Fmt.{decimal}
use Rattle.std.proofs.lemmas.Bool.{cases_lt}
use Rattle.std.proofs.lemmas.Fmt.{decimal_digit, decimal_step_wide, length-decimal-le}
use Rattle.std.proofs.lemmas.List.{length-take-le, take-append-le, get_or_append_left, get_or-append_right}
use Rattle.std.proofs.Math.Seq.{take-append-add}
use Rattle.std.proofs.lemmas.List.Elements.{All-append, All-from_get_or, Contains-append_cases}
use Rattle.std.proofs.lemmas.List.FromFn.{length-map-range_with_len, get_or-map-range_with_len}
use Rattle.std.proofs.lemmas.List.Sums.{list_all-from_AllPass}
use Rattle.exact_parts.proofs.Decimals.{decimal_tells}
use Rattle.search_model.specs.Names.{IsName, AreNames, is_name_byte, name_in, IsRepeated}
use Rattle.search_model.specs.Problem.{Problem, IsProblem}
use Rattle.search_model.proofs.NameLemmas.{digits_are_of_names}
use Rattle.residual_plan.specs.Forced.{forced_count, forced_name, forced_names, IsNameTaken}

-- a number of one digit, and one of two
pub name_of_digit : (i : ℕ) → i < 10 → 102 ∷ 108 ∷ 111 ∷ 119 ∷ 110 ∷ 45 ∷ (48 + i % 10) ∷ [] ≡ forced_name i
unfolding forced_name
name_of_digit i small =
    let own : 48 + i % 10 ≡ 48 + i = omega arith in
    rw (decimal_digit i small, own) refl

pub name_of_digits : (i : ℕ) → 10 ≤ i → i ≤ 32 → 102 ∷ 108 ∷ 111 ∷ 119 ∷ 110 ∷ 45 ∷ (48 + i / 10) ∷ (48 + i % 10) ∷ [] ≡ forced_name i
unfolding forced_name
name_of_digits i large small =
    let front : decimal (i / 10) ≡ (48 + i / 10) ∷ [] = decimal_digit (i / 10) (omega arith) in
    rw (decimal_step_wide i large (omega arith), front) refl

-- each is a name
pub IsName-forced : (i : ℕ) → i ≤ 32 → IsName (forced_name i)
unfolding forced_name
IsName-forced i small =
    let short : length (decimal i) ≤ 3 = length-decimal-le 3 i (omega arith) (omega arith) (omega arith) in
    record { some = omega arith; short = omega (arith, short); bytes = list_all-from_AllPass is_name_byte (decimal i) (digits_are_of_names i (omega arith)) }

-- two of one name have the same number
forced_name_tells : (i j : ℕ) → i ≤ 32 → j ≤ 32 → forced_name i ≡ forced_name j → i ≡ j
unfolding forced_name
forced_name_tells i j i_small j_small e =
    let behind : decimal i ≡ decimal j = cc in
    decimal_tells i j (omega arith) (omega arith) behind

-- names that differ, behind others that differ, of which none is one of these
differ-append : (xs ys : List (List ℕ)) → ((c : ℕ) → ¬ IsRepeated xs c) → ((c : ℕ) → ¬ IsRepeated ys c) → ((d : ℕ) → d < length ys → ¬ Contains xs (name_in ys d)) → (c : ℕ) → ¬ IsRepeated (xs ++ ys) c
differ-append xs ys first second apart c again =
    elim (cases_lt c (length xs)) [
      | inl lt ↦
          let front : take c (xs ++ ys) ≡ take c xs = take-append-le c xs ys (omega arith) in
          let here : name_in (xs ++ ys) c ≡ name_in xs c = get_or_append_left xs ys [] c lt in
          first c (lt, subst (λ n. Contains (take c xs) n) here (subst (λ ns. Contains ns (name_in (xs ++ ys) c)) front again.1))
      | inr le ↦
          let d : ℕ = c - length xs in
          let place : length xs + d ≡ c = omega (arith, le) in
          let inside : d < length ys = omega (arith, le, again.0, length-append xs ys) in
          let front : take c (xs ++ ys) ≡ xs ++ take d ys = ap (λ n. take n (xs ++ ys)) (sym place) ∙ take-append-add xs ys d in
          let here : name_in (xs ++ ys) c ≡ name_in ys d = get_or-append_right xs ys (length xs) c [] refl le in
          let both : Contains (xs ++ take d ys) (name_in ys d) = subst (λ n. Contains (xs ++ take d ys) n) here (subst (λ ns. Contains ns (name_in (xs ++ ys) c)) front again.1) in
          elim (Contains-append_cases xs (take d ys) (name_in ys d) both) [
            | inl old ↦ apart d inside old
            | inr new ↦ second d (inside, new)
          ]
    ]

pub count_names : (k : ℕ) → length (forced_names k) ≡ k + 1
unfolding forced_names
count_names k = length-map-range_with_len forced_name 0 (k + 1)

name_at : (k i : ℕ) (d : List ℕ) → i ≤ k → get_or (forced_names k) i d ≡ forced_name i
unfolding forced_names
name_at k i d le = get_or-map-range_with_len forced_name 0 (k + 1) i i d (omega arith) (omega arith)

new_differ : (k : ℕ) → k ≤ 32 → (c : ℕ) → ¬ IsRepeated (forced_names k) c
new_differ k few c again =
    let names = forced_names k in
    let within : c ≤ k = omega (arith, again.0, count_names k) in
    let place : again.1.0 < c = omega (arith, again.1.1, length-take-le c names (omega (arith, again.0))) in
    let at : get_or (take c names) again.1.0 (name_in names c) ≡ get_or names again.1.0 (name_in names c) = get_or-take c names again.1.0 (name_in names c) place in
    let earlier : get_or names again.1.0 (name_in names c) ≡ forced_name again.1.0 = name_at k again.1.0 (name_in names c) (omega (arith, place, within)) in
    let here : name_in names c ≡ forced_name c = name_at k c [] within in
    let same : forced_name again.1.0 ≡ forced_name c = sym earlier ∙ sym at ∙ again.1.2 ∙ here in
    let equal : again.1.0 ≡ c = forced_name_tells again.1.0 c (omega (arith, place, within, few)) (omega (arith, within, few)) same in
    omega (arith, place, equal)

-- where no position has a new name, all names are different
pub are_names : (p : Problem) (flown : List ℕ) → IsProblem p → length flown ≤ 32 → ¬ IsNameTaken p flown → AreNames (forced_count p flown) (p.position_names ++ forced_names (length flown))
are_names p flown sound few free =
    let k : ℕ = length flown in
    record {
      count = omega (arith, length-append p.position_names (forced_names k), count_names k, sound.position_names.count);
      each = All-append IsName p.position_names (forced_names k) sound.position_names.each (All-from_get_or IsName (forced_names k) [] (λ i inside.
          let within : i ≤ k = omega (arith, inside, count_names k) in
          subst IsName (sym (name_at k i [] within)) (IsName-forced i (omega (arith, within, few)))));
      differ = differ-append p.position_names (forced_names k) sound.position_names.differ (new_differ k few) (λ d inside old.
          let within : d ≤ k = omega (arith, inside, count_names k) in
          free (d, within, subst (λ n. Contains p.position_names n) (name_at k d [] within) old));
    }
