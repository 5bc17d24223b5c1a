-- The rows that the shorthands give: the moves of a grid, and the drift to side neighbours.
use Rattle.std.proofs.Common.{◌≡◌, ℕ, zero, suc, ◌<◌, ◌≤◌, ◌+◌, ◌*◌, ◌-◌, Bool, true, false, cond, List, [], ◌∷◌, map, length, get_or, refl, sym, ap, ◌∙◌, arith, subst, inl, inr, ◌⊎◌}
use Rattle.std.specs.Prelude.{◌==◌, nat_lt, if◌then◌else◌, filter, All, count_by, sum_by}
use Rattle.std.specs.List.{list_any, range_with_len}
use Rattle.std.proofs.lemmas.Bool.{ltb-true, ltb-false, eq-eqb, ne_eqb, cases_eq, cases_lt, cases_Bool, lt-ltb, le-ltb, true≢false}
use Rattle.std.proofs.lemmas.List.Elements.{All-map, All-filter, All-from_get_or, All-weaker, filter_passes}
use Rattle.std.proofs.lemmas.List.FromFn.{length-map-range_with_len, get_or-map-range_with_len}
use Rattle.std.proofs.lemmas.List.Kept.{AllPairs-from_increasing}
use Rattle.std.proofs.lemmas.List.Sums.{sum_by-cons, count_by-le-length}
use Rattle.period_rows.specs.declared.part.CellPart.{CellPart}
use Rattle.search_grid.specs.Moves.{moves_from, IsMoveRow}
use Rattle.search_grid.specs.Sides.{is_beside, side_moves}
use Rattle.list_laws.proofs.Ascending.{count_at-le}
use Rattle.search_grid.proofs.Beside.{IsGrid-from_sides, side_moves_from, length-side_moves, stays}
use Rattle.search_model.specs.Grids.{rest_of, spread_row, spread_rows}
use Rattle.scenario_text.specs.Sound.{AreEntries, AreMoves}
use Rattle.scenario_text.proofs.SoundFields.{none_pass}
use Rattle.list_laws.proofs.Sums.{sum_by-map}

-- The moves of a grid.
pub AreMoves-from_row : (cells : ℕ) (row : List ℕ) → IsMoveRow cells row → AreMoves cells row
AreMoves-from_row cells row h = record {
  some = h.some;
  few = h.few;
  within = h.within;
  once = λ d. count_at-le (λ m. m) d row (AllPairs-from_increasing row h.ascending);
}

pub moves_at : (rows : List (List ℕ)) (c : ℕ) → moves_from rows c ≡ get_or rows c []
unfolding moves_from
moves_at rows c = refl

pub All-side_moves : (rows cols : ℕ) → 1 ≤ rows → 1 ≤ cols → rows * cols ≤ 200 → All (AreMoves (rows * cols)) (side_moves rows cols)
All-side_moves rows cols some_row some_col few =
    let grid = IsGrid-from_sides rows cols some_row some_col few in
    All-from_get_or (AreMoves (rows * cols)) (side_moves rows cols) [] (λ c lt.
    let P : ℕ → Type 0 = λ n. AreMoves n (moves_from (side_moves rows cols) c) in
    let Q : List ℕ → Type 0 = λ row. AreMoves (rows * cols) row in
    subst Q (moves_at (side_moves rows cols) c) (subst P (length-side_moves rows cols) (AreMoves-from_row _ _ (grid.each c lt))))

-- a number is counted once in a range that holds it
none_before : (n a c : ℕ) → c < a → count_by (λ m. m == c) (range_with_len a n) ≡ 0
none_before zero a c lt = refl
none_before (suc n) a c lt =
    sum_by-cons (λ m. cond (m == c) 1 0) a (range_with_len (a + 1) n) ∙ rw (ne_eqb a c (λ e. omega arith)) (omega (arith, none_before n (a + 1) c (omega arith)))

one_in : (n a c : ℕ) → a ≤ c → c < a + n → count_by (λ m. m == c) (range_with_len a n) ≡ 1
one_in zero a c le lt = absurd (omega arith)
one_in (suc n) a c le lt =
    let step = sum_by-cons (λ m. cond (m == c) 1 0) a (range_with_len (a + 1) n) in
    elim (cases_eq a c) [
      | inl same ↦ step ∙ rw (eq-eqb a c same) (omega (arith, none_before n (a + 1) c (omega arith)))
      | inr apart ↦ step ∙ rw (ne_eqb a c apart) (omega (arith, one_in n (a + 1) c (omega arith) (omega arith)))
    ]

-- what a test keeps is counted as before
kept_count : (p : ℕ → Bool) (c : ℕ) → p c ≡ true → (xs : List ℕ) → count_by (λ m. m == c) (filter p xs) ≡ count_by (λ m. m == c) xs
kept_count p c keeps [] = refl
kept_count p c keeps (x ∷ xs) =
    let step = sum_by-cons (λ m. cond (m == c) 1 0) x xs in
    elim (cases_Bool (p x)) [
      | inl passes ↦ rw passes (sum_by-cons (λ m. cond (m == c) 1 0) x (filter p xs) ∙ ap (λ n. cond (x == c) 1 0 + n) (kept_count p c keeps xs) ∙ sym step)
      | inr fails ↦
          let apart : x ≡ c → ⊥ = λ same. let bad : true ≡ false = sym keeps ∙ ap p (sym same) ∙ fails in true≢false bad in
          rw (fails, step, ne_eqb x c apart) (omega (arith, kept_count p c keeps xs))
    ]

pub own_once : (rows cols c : ℕ) → c < length (side_moves rows cols) → count_by (λ m. m == c) (moves_from (side_moves rows cols) c) ≡ 1
own_once rows cols c lt =
    let within : c < rows * cols = omega (arith, lt, length-side_moves rows cols) in
    rw (side_moves_from rows cols c within) (kept_count (is_beside cols c) c (stays cols c) (range_with_len 0 (rows * cols)) ∙ one_in (rows * cols) 0 c (omega arith) (omega arith))

-- The drift to side neighbours.
kept_count-le : {X : Type 0} (p q : X → Bool) (xs : List X) → count_by q (filter p xs) ≤ count_by q xs
kept_count-le p q [] = omega arith
kept_count-le p q (x ∷ xs) =
    let step = sum_by-cons (λ y. cond (q y) 1 0) x xs in
    elim (cases_Bool (p x)) [
      | inl passes ↦ rw passes (omega (arith, step, sum_by-cons (λ y. cond (q y) 1 0) x (filter p xs), kept_count-le p q xs))
      | inr fails ↦ rw fails (omega (arith, step, kept_count-le p q xs))
    ]

-- without its zeros a sum is the same
kept_sum : {X : Type 0} (f : X → ℕ) (xs : List X) → sum_by f (filter (λ x. nat_lt 0 (f x)) xs) ≡ sum_by f xs
kept_sum f [] = refl
kept_sum f (x ∷ xs) =
    let step = sum_by-cons f x xs in
    elim (cases_lt 0 (f x)) [
      | inl some ↦ rw (lt-ltb 0 (f x) some) (omega (arith, step, sum_by-cons f x (filter (λ x. nat_lt 0 (f x)) xs), kept_sum f xs))
      | inr none ↦ rw (le-ltb 0 (f x) none) (omega (arith, step, kept_sum f xs))
    ]

-- the sum of parts, one value at c and another elsewhere
two_values : (rest part c : ℕ) (row : List ℕ) → sum_by (λ m. if m == c then rest else part) row + part * count_by (λ m. m == c) row ≡ rest * count_by (λ m. m == c) row + part * length row
two_values rest part c [] = omega arith
two_values rest part c (m ∷ row) =
    let sums = sum_by-cons (λ m. if m == c then rest else part) m row in
    let counts = sum_by-cons (λ m. cond (m == c) 1 0) m row in
    let so_far = two_values rest part c row in
    let n = count_by (λ m. m == c) row in
    elim (cases_eq m c) [
      | inl same ↦
          let here : sum_by (λ m. if m == c then rest else part) (m ∷ row) ≡ rest + sum_by (λ m. if m == c then rest else part) row = sums ∙ rw (eq-eqb m c same) refl in
          let one : count_by (λ m. m == c) (m ∷ row) ≡ 1 + n = counts ∙ rw (eq-eqb m c same) refl in
          rw (here, one) (omega (arith, so_far))
      | inr apart ↦
          let here : sum_by (λ m. if m == c then rest else part) (m ∷ row) ≡ part + sum_by (λ m. if m == c then rest else part) row = sums ∙ rw (ne_eqb m c apart) refl in
          let one : count_by (λ m. m == c) (m ∷ row) ≡ n = counts ∙ rw (ne_eqb m c apart) (omega arith) in
          rw (here, one) (omega (arith, so_far))
    ]

all_of : (denominator part others sum long : ℕ) → long ≡ others + 1 → part * others ≤ denominator → sum + part * 1 ≡ (denominator - part * others) * 1 + part * long → sum ≡ denominator
all_of denominator part others sum long e le so_far =
    let wide : part * long ≡ part * others + part = rw e (omega arith) in
    omega (arith, so_far, wide, le)

spread_total : (denominator part c : ℕ) (row : List ℕ) → count_by (λ m. m == c) row ≡ 1 → 1 ≤ length row → part * (length row - 1) ≤ denominator →
    sum_by (λ m. if m == c then rest_of denominator part (length row) else part) row ≡ denominator
spread_total denominator part c row once some le =
    let sums = two_values (rest_of denominator part (length row)) part c row in
    all_of denominator part (length row - 1) _ (length row) (omega arith) le (rw once at sums)

pub AreEntries-spread : (cells denominator part c : ℕ) (row : List ℕ) → AreMoves cells row → count_by (λ m. m == c) row ≡ 1 → part * (length row - 1) ≤ denominator → AreEntries cells denominator (spread_row denominator part c row)
unfolding spread_row
AreEntries-spread cells denominator part c row moves own le =
    let f : ℕ → CellPart = λ m. record { cell = m; part = if m == c then rest_of denominator part (length row) else part } in
    let p : CellPart → Bool = λ e. nat_lt 0 e.part in
    let all : sum_by (λ e. e.part) (filter p (map f row)) ≡ denominator =
    kept_sum (λ e. e.part) (map f row) ∙ sum_by-map (λ e. e.part) f row ∙ spread_total denominator part c row own moves.some le in
    record {
      within = All-filter p (λ e. e.cell < cells) (map f row) (All-map (λ e. e.cell < cells) f row moves.within);
      positive = All-weaker (λ e. p e ≡ true) (λ e. 1 ≤ e.part) (λ e some. let lt = ltb-true 0 e.part some in omega (arith, lt)) (filter p (map f row)) (filter_passes p (map f row));
      once = λ d. omega (arith, kept_count-le p (λ e. e.cell == d) (map f row), sum_by-map (λ e. cond (e.cell == d) 1 0) f row, moves.once d);
      total = all;
    }

-- a row that holds its own cell isn't empty
pub own_row : (cells c : ℕ) (row : List ℕ) → (length row ≡ 0) ⊎ AreMoves cells row → count_by (λ m. m == c) row ≡ 1 → AreMoves cells row
own_row cells c row (inl none) own = absurd (omega (arith, none, own, count_by-le-length (λ m. m == c) row))
own_row cells c row (inr moves) own = moves

pub length-spread_rows : (denominator part : ℕ) (moves : List (List ℕ)) → length (spread_rows denominator part moves) ≡ length moves
length-spread_rows denominator part moves = length-map-range_with_len (λ c. spread_row denominator part c (moves_from moves c)) 0 (length moves)

pub All-spread_rows : (cells denominator part : ℕ) (moves : List (List ℕ)) → All (λ row. (length row ≡ 0) ⊎ AreMoves cells row) moves
    → ((c : ℕ) → c < length moves → count_by (λ m. m == c) (moves_from moves c) ≡ 1)
    → list_any (λ row. nat_lt denominator (part * (length row - 1))) moves ≡ false
    → All (λ row. (length row ≡ 0) ⊎ AreEntries cells denominator row) (spread_rows denominator part moves)
All-spread_rows cells denominator part moves all own narrow =
    All-from_get_or (λ row. (length row ≡ 0) ⊎ AreEntries cells denominator row) (spread_rows denominator part moves) [] (λ c lt.
    let within : c < length moves = omega (arith, lt, length-spread_rows denominator part moves) in
    let at : get_or (spread_rows denominator part moves) c [] ≡ spread_row denominator part c (moves_from moves c) =
    get_or-map-range_with_len (λ c. spread_row denominator part c (moves_from moves c)) 0 (length moves) c c [] within (omega arith) in
    let here = own c within in
    let row = moves_at moves c in
    let P : List ℕ → Type 0 = λ r. (length r ≡ 0) ⊎ AreMoves cells r in
    let given : (length (moves_from moves c) ≡ 0) ⊎ AreMoves cells (moves_from moves c) = subst P (sym row) (all c [] within) in
    let fails : nat_lt denominator (part * (length (moves_from moves c) - 1)) ≡ false = rw row (none_pass (λ r. nat_lt denominator (part * (length r - 1))) moves narrow c [] within) in
    let Q : List CellPart → Type 0 = λ r. (length r ≡ 0) ⊎ AreEntries cells denominator r in
    subst Q (sym at) (inr (AreEntries-spread cells denominator part c (moves_from moves c) (own_row cells c (moves_from moves c) given here) here (ltb-false _ _ fails))))
