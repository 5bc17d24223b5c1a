-- Names of cells: a new one, and those of a grid.
use Rattle.std.proofs.Common.{◌≡◌, ℕ, zero, suc, ◌<◌, ◌≤◌, ◌+◌, ◌*◌, ◌/◌, ◌%◌, true, List, [], ◌∷◌, ◌++◌, length, get_or, take, refl, sym, ◌∙◌, arith, subst, inl, inr, get_or-take}
use Rattle.std.specs.Prelude.{All, Contains}
use Rattle.std.specs.Fmt.{decimal}
use Rattle.std.proofs.Math.Nat.{div-add-mod}
use Rattle.std.proofs.lemmas.Bool.{cases_lt}
use Rattle.std.proofs.lemmas.Fmt.{length-decimal-le}
use Rattle.std.proofs.lemmas.List.{length-append, length-take-le, length_push, take-append-le, take_at, get_or_append_left, get_or_push}
use Rattle.std.proofs.lemmas.List.Elements.{All-cons, All-append, All-from_get_or}
use Rattle.std.proofs.lemmas.List.FromFn.{length-map-range_with_len, get_or-map-range_with_len}
use Rattle.std.proofs.lemmas.List.Sums.{list_all-from_AllPass}
use Rattle.search_model.specs.Names.{IsName, is_name_byte, name_in, IsRepeated}
use Rattle.search_model.specs.Grids.{grid_name, grid_names}
use Rattle.search_model.proofs.NameLemmas.{digits_are_of_names}
use Rattle.scenario_text.proofs.GridNames.{grid_name_tells}

-- a name that isn't there repeats none
pub differ_more : (names : List (List ℕ)) (name : List ℕ) → ((c : ℕ) → ¬ IsRepeated names c) → ¬ Contains names name → (c : ℕ) → ¬ IsRepeated (names ++ name ∷ []) c
differ_more names name differ new c again =
    let within : c < length names + 1 = omega (arith, again.0, length_push names name) in
    elim (cases_lt c (length names)) [
      | inl lt ↦
          let front : take c (names ++ name ∷ []) ≡ take c names = take-append-le c names (name ∷ []) (omega arith) in
          let here : name_in (names ++ name ∷ []) c ≡ name_in names c = get_or_append_left names (name ∷ []) [] c lt in
          let P : List (List ℕ) → Type 0 = λ ns. Contains ns (name_in (names ++ name ∷ []) c) in
          let Q : List ℕ → Type 0 = λ n. Contains (take c names) n in
          differ c (lt, subst Q here (subst P front again.1))
      | inr le ↦
          let last : length names ≡ c = omega arith in
          let front : take c (names ++ name ∷ []) ≡ names = take_at names (name ∷ []) c last in
          let here : name_in (names ++ name ∷ []) c ≡ name = get_or_push names name [] c last in
          let P : List (List ℕ) → Type 0 = λ ns. Contains ns (name_in (names ++ name ∷ []) c) in
          let Q : List ℕ → Type 0 = λ n. Contains names n in
          new (subst Q here (subst P front again.1))
    ]

-- The names of a grid's cells.
short : (n : ℕ) → n ≤ 200 → length (decimal n) ≤ 3
short n small = length-decimal-le 3 n (omega arith) (omega arith) (omega arith)

row_small : (c k : ℕ) → 1 ≤ k → c < 200 → c / k ≤ 200
row_small c zero some small = absurd (omega arith)
row_small c (suc k) some small = let parts = div-add-mod c (suc k) in omega (arith, parts)

column_small : (c k : ℕ) → c < 200 → c % k ≤ 200
column_small c k small = let parts = div-add-mod c k in omega (arith, parts)

pub IsName-grid : (cols c : ℕ) → 1 ≤ cols → c < 200 → IsName (grid_name cols c)
IsName-grid cols c some small =
    let row = row_small c cols some small in
    let column = column_small c cols small in
    let P : ℕ → Type 0 = λ b. is_name_byte b ≡ true in
    let long = length-append (decimal (c / cols)) (99 ∷ decimal (c % cols)) in
    let bytes : All P (grid_name cols c) =
    All-cons P 114 _ refl (All-append P (decimal (c / cols)) (99 ∷ decimal (c % cols)) (digits_are_of_names (c / cols) (omega (arith, row))) (All-cons P 99 (decimal (c % cols)) refl (digits_are_of_names (c % cols) (omega (arith, column))))) in
    record {
      some = omega arith;
      short = omega (arith, long, short (c / cols) row, short (c % cols) column);
      bytes = list_all-from_AllPass is_name_byte (grid_name cols c) bytes;
    }

pub grid_count : (rows cols : ℕ) → length (grid_names rows cols) ≡ rows * cols
grid_count rows cols = length-map-range_with_len (grid_name cols) 0 (rows * cols)

grid_name-at : (rows cols c : ℕ) (d : List ℕ) → c < rows * cols → get_or (grid_names rows cols) c d ≡ grid_name cols c
grid_name-at rows cols c d lt = get_or-map-range_with_len (grid_name cols) 0 (rows * cols) c c d lt (omega arith)

pub All-grid_names : (rows cols : ℕ) → 1 ≤ cols → rows * cols ≤ 200 → All IsName (grid_names rows cols)
All-grid_names rows cols some few = All-from_get_or IsName (grid_names rows cols) [] (λ c lt.
    let within : c < rows * cols = omega (arith, lt, grid_count rows cols) in
    let P : List ℕ → Type 0 = λ n. IsName n in
    subst P (sym (grid_name-at rows cols c [] within)) (IsName-grid cols c some (omega (arith, within, few))))

pub grid_differ : (rows cols : ℕ) → 1 ≤ cols → rows * cols ≤ 200 → (c : ℕ) → ¬ IsRepeated (grid_names rows cols) c
grid_differ rows cols some few c again =
    let names = grid_names rows cols in
    let within : c < rows * cols = omega (arith, again.0, grid_count rows cols) in
    let place : again.1.0 < c = omega (arith, again.1.1, length-take-le c names (omega (arith, again.0))) in
    let at : get_or (take c names) again.1.0 (name_in names c) ≡ get_or names again.1.0 (name_in names c) = get_or-take c names again.1.0 (name_in names c) place in
    let earlier : get_or names again.1.0 (name_in names c) ≡ grid_name cols again.1.0 = grid_name-at rows cols again.1.0 (name_in names c) (omega arith) in
    let here : name_in names c ≡ grid_name cols c = grid_name-at rows cols c [] within in
    let same : grid_name cols again.1.0 ≡ grid_name cols c = sym earlier ∙ sym at ∙ again.1.2 ∙ here in
    let equal : again.1.0 ≡ c = grid_name_tells cols again.1.0 c some (omega arith) (omega (arith, within, few)) same in
    omega (arith, place, equal)
