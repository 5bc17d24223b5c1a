-- The moves in a grid of rows and columns.
use Rattle.std.proofs.Common.{ℕ, zero, suc, ◌≡◌, ◌<◌, ◌≤◌, ◌+◌, ◌*◌, ◌/◌, ◌%◌, ◌==◌, ◌&&◌, ◌||◌, ◌⊎◌, ◌∙◌, Bool, true, false, if◌then◌else◌, List, [], ◌∷◌, ◌++◌, map, length, get_or, refl, sym, ap, arith, count_by, inl, inr}
use Rattle.std.specs.List.{filter, range_with_len}
use Rattle.std.specs.List.Sorted.{IsStrictlyIncreasing}
use Rattle.std.proofs.lemmas.List.Elements.{filter-append, All-filter}
use Rattle.std.proofs.lemmas.List.FromFn.{length-range_with_len, get_or-range_with_len, length-map-range_with_len, get_or-map-range_with_len, map-range_with_len_more}
use Rattle.std.proofs.lemmas.List.Kept.{AllPairs-from_increasing, IsStrictlyIncreasing-filter}
use Rattle.std.proofs.lemmas.List.Sums.{length-filter, sum_by-cons}
use Rattle.std.proofs.lemmas.List.{append-nil}
use Rattle.std.proofs.lemmas.Bool.{false≢true, cases_eq, cases_lt, eq-eqb, and_parts}
use Rattle.std.proofs.lemmas.Bool.Decides.{nat_tests}
use Rattle.std.proofs.Math.Nat.{div-add-mod, mul-le-mul_left}
use Rattle.search_grid.specs.Moves.{moves_from, IsMoveRow, IsGrid}
use Rattle.search_grid.specs.Sides.{is_close, is_beside, moves_beside, side_moves, WorkedSides}
use Rattle.list_laws.proofs.Ascending.{Ascends, count_at-le}
use Rattle.list_laws.proofs.Ranges.{range_more, range_below, range_rises}

filter_more_of : (p : ℕ → Bool) (n : ℕ) → filter p (range_with_len 0 (n + 1)) ≡ filter p (range_with_len 0 n) ++ filter p (n ∷ [])
filter_more_of p n =
    ap (filter p) (range_more n) ∙ filter-append p (range_with_len 0 n) (n ∷ [])

-- which the test keeps
pub kept_more : (p : ℕ → Bool) (n : ℕ) (row : List ℕ) → p n ≡ true → row ≡ filter p (range_with_len 0 n) → row ++ n ∷ [] ≡ filter p (range_with_len 0 (n + 1))
kept_more p n row is so_far = rw so_far (sym (filter_more_of p n ∙ rw is refl))

-- or not
pub passed_over : (p : ℕ → Bool) (n : ℕ) (row : List ℕ) → p n ≡ false → row ≡ filter p (range_with_len 0 n) → row ≡ filter p (range_with_len 0 (n + 1))
passed_over p n row isnt so_far = so_far ∙ sym (filter_more_of p n ∙ rw isnt (append-nil _))

-- the moves of one cell more
pub moves_more : (f : ℕ → List ℕ) (n : ℕ) (rows : List (List ℕ)) (row : List ℕ) → rows ≡ map f (range_with_len 0 n) → row ≡ f n → rows ++ row ∷ [] ≡ map f (range_with_len 0 (n + 1))
moves_more f n rows row so_far is = rw (so_far, is) (sym (map-range_with_len_more f 0 n n (omega arith)))

-- A test that holds at three places at most, as far apart as a says, keeps three numbers at most.
abbrev AtThree : (ℕ → Bool) → ℕ → ℕ → Type 0
AtThree p c a = (d : ℕ) → p d ≡ true → (d ≡ c) ⊎ (d + a ≡ c) ⊎ (d ≡ c + a)

ascends_by : (key : ℕ → ℕ) (xs : List ℕ) → ((m n : ℕ) → m < n → key m < key n) → IsStrictlyIncreasing xs → Ascends key xs
ascends_by key xs keeps up i j d before inside = keeps _ _ (AllPairs-from_increasing xs up i j d before inside)

count-le-three : (p q r s : ℕ → Bool) (xs : List ℕ) → ((d : ℕ) → p d ≡ true → (q d ≡ true) ⊎ (r d ≡ true) ⊎ (s d ≡ true)) → count_by p xs ≤ count_by q xs + count_by r xs + count_by s xs
count-le-three p q r s [] h = omega arith
count-le-three p q r s (x ∷ xs) h =
    let rest = count-le-three p q r s xs h in
    let one : (if p x then 1 else 0) ≤ (if q x then 1 else 0) + (if r x then 1 else 0) + (if s x then 1 else 0) = at (p x) (q x) (r x) (s x) (h x) in
    rw (sum_by-cons (λ y. if p y then 1 else 0) x xs, sum_by-cons (λ y. if q y then 1 else 0) x xs, sum_by-cons (λ y. if r y then 1 else 0) x xs, sum_by-cons (λ y. if s y then 1 else 0) x xs) (omega (arith, one, rest))
  where
    at : (a b c d : Bool) → (a ≡ true → (b ≡ true) ⊎ (c ≡ true) ⊎ (d ≡ true)) → (if a then 1 else 0) ≤ (if b then 1 else 0) + (if c then 1 else 0) + (if d then 1 else 0)
    at false b c d h = omega arith
    at true true c d h = omega arith
    at true false true d h = omega arith
    at true false false true h = omega arith
    at true false false false h = elim (h refl) [ inl e ↦ absurd (false≢true e) | inr other ↦ elim other [ inl e ↦ absurd (false≢true e) | inr e ↦ absurd (false≢true e) ] ]

count_at_three : (p : ℕ → Bool) (c a : ℕ) (xs : List ℕ) → IsStrictlyIncreasing xs → AtThree p c a → count_by p xs ≤ 3
count_at_three p c a xs up three =
    let all = count-le-three p (λ d. d == c) (λ d. d + a == c) (λ d. d == c + a) xs
    (λ d is. elim (three d is) [ inl e ↦ inl (eq-eqb d c e) | inr other ↦ elim other [ inl e ↦ inr (inl (eq-eqb (d + a) c e)) | inr e ↦ inr (inr (eq-eqb d (c + a) e)) ] ]) in
    let first = count_at-le (λ d. d) c xs (ascends_by (λ d. d) xs (λ m n lt. lt) up) in
    let second = count_at-le (λ d. d + a) c xs (ascends_by (λ d. d + a) xs (λ m n lt. omega (arith, lt)) up) in
    let third = count_at-le (λ d. d) (c + a) xs (ascends_by (λ d. d) xs (λ m n lt. lt) up) in
    omega (arith, all, first, second, third)

-- numbers that differ by one at most
close_cases : (m n : ℕ) → is_close m n ≡ true → (n ≡ m) ⊎ (n + 1 ≡ m) ⊎ (n ≡ m + 1)
close_cases m n is =
    let bounds : (m ≤ n + 1) × (n ≤ m + 1) = both_le m n is in
    elim (cases_eq n m) [
      | inl same ↦ inl same
      | inr apart ↦ elim (cases_lt n m) [ inl below ↦ inr (inl (omega (arith, bounds.0))) | inr above ↦ inr (inr (omega (arith, bounds.1))) ]
    ]
  where
    both_le : (m n : ℕ) → is_close m n ≡ true → (m ≤ n + 1) × (n ≤ m + 1)
    both_le m n is = grind (arith, nat_tests)

or_split : (a b : Bool) → (a || b) ≡ true → (a ≡ true) ⊎ (b ≡ true)
or_split true b is = inl refl
or_split false b is = inr is

same_number : (m n : ℕ) → (m == n) ≡ true → m ≡ n
same_number m n is = grind (arith, nat_tests)

-- the moves within a row, and those within a column
abbrev in_row : ℕ → ℕ → ℕ → Bool
in_row k c d = c / k == d / k && is_close (c % k) (d % k)

abbrev in_column : ℕ → ℕ → ℕ → Bool
in_column k c d = c % k == d % k && is_close (c / k) (d / k)

in_row_three : (k c : ℕ) → AtThree (in_row k c) c 1
in_row_three k c d is =
    let both = and_parts (c / k == d / k) (is_close (c % k) (d % k)) is in
    let rows = ap (λ q. k * q) (same_number _ _ both.0) in
    let here = div-add-mod c k in
    let there = div-add-mod d k in
    elim (close_cases (c % k) (d % k) both.1) [
      | inl same ↦ inl (omega (arith, rows, here, there, same))
      | inr other ↦ elim other [ inl left ↦ inr (inl (omega (arith, rows, here, there, left))) | inr right ↦ inr (inr (omega (arith, rows, here, there, right))) ]
    ]

in_column_three : (k c : ℕ) → AtThree (in_column k c) c k
in_column_three k c d is =
    let both = and_parts (c % k == d % k) (is_close (c / k) (d / k)) is in
    let columns = same_number _ _ both.0 in
    let here = div-add-mod c k in
    let there = div-add-mod d k in
    elim (close_cases (c / k) (d / k) both.1) [
      | inl same ↦ let rows = ap (λ q. k * q) same in inl (omega (arith, rows, here, there, columns))
      | inr other ↦ elim other [
        | inl up ↦ let rows : k * (c / k) ≡ k * (d / k) + k = rw (← up) (omega arith) in inr (inl (omega (arith, rows, here, there, columns)))
        | inr down ↦ let rows : k * (d / k) ≡ k * (c / k) + k = rw down (omega arith) in inr (inr (omega (arith, rows, here, there, columns)))
      ]
    ]

-- nine moves at most
few_moves : (k c : ℕ) (xs : List ℕ) → IsStrictlyIncreasing xs → length (filter (is_beside k c) xs) ≤ 9
few_moves k c xs up =
    let all = count-le-three (is_beside k c) (in_row k c) (in_column k c) (in_column k c) xs
    (λ d is. elim (or_split (in_row k c d) (in_column k c d) is) [ inl e ↦ inl e | inr e ↦ inr (inl e) ]) in
    let rows = count_at_three (in_row k c) c 1 xs up (in_row_three k c) in
    let columns = count_at_three (in_column k c) c k xs up (in_column_three k c) in
    omega (arith, length-filter (is_beside k c) xs, all, rows, columns)

-- a test that holds somewhere keeps something
some_kept : (p : ℕ → Bool) (xs : List ℕ) (k d : ℕ) → k < length xs → p (get_or xs k d) ≡ true → 1 ≤ count_by p xs
some_kept p [] k d inside is = absurd (omega arith)
some_kept p (x ∷ xs) zero d inside is = rw (sum_by-cons (λ y. if p y then 1 else 0) x xs, is) (omega arith)
some_kept p (x ∷ xs) (suc k) d inside is = rw (sum_by-cons (λ y. if p y then 1 else 0) x xs) (omega (arith, some_kept p xs k d (omega arith) is))

pub stays : (k c : ℕ) → is_beside k c c ≡ true
stays k c = grind (arith, nat_tests)

-- the moves of a cell
row_right : (n k c : ℕ) → c < n → IsMoveRow n (filter (is_beside k c) (range_with_len 0 n))
row_right n k c inside =
    let xs = range_with_len 0 n in
    let long = length-range_with_len 0 n in
    let here : get_or xs c 0 ≡ c = get_or-range_with_len 0 n c 0 inside ∙ omega arith in
    let stay : is_beside k c (get_or xs c 0) ≡ true = rw here (stays k c) in
    record {
      some = omega (arith, length-filter (is_beside k c) xs, some_kept (is_beside k c) xs c 0 (omega (arith, long)) stay);
      few = omega (arith, few_moves k c xs (range_rises n));
      ascending = IsStrictlyIncreasing-filter (is_beside k c) xs (range_rises n);
      within = All-filter (is_beside k c) (λ d. d < n) xs (range_below n);
    }

pub one-le-times : (m k : ℕ) → 1 ≤ m → 1 ≤ k → 1 ≤ m * k
one-le-times m k h g = grind (arith, mul-le-mul_left)

pub length-side_moves : (rows columns : ℕ) → length (side_moves rows columns) ≡ rows * columns
unfolding side_moves
length-side_moves rows columns = length-map-range_with_len (moves_beside rows columns) 0 (rows * columns)

-- the moves of a cell of so many rows and columns
pub side_moves_from : (rows columns c : ℕ) → c < rows * columns → moves_from (side_moves rows columns) c ≡ moves_beside rows columns c
unfolding side_moves moves_from
side_moves_from rows columns c inside = get_or-map-range_with_len (moves_beside rows columns) 0 (rows * columns) c c [] inside (omega arith)

-- side moves make a grid
pub IsGrid-from_sides : (rows columns : ℕ) → 1 ≤ rows → 1 ≤ columns → rows * columns ≤ 200 → IsGrid (side_moves rows columns)
IsGrid-from_sides rows columns some_row some_column few = record {
  size = (omega (arith, length-side_moves rows columns, one-le-times rows columns some_row some_column), omega (arith, length-side_moves rows columns, few));
  each = λ c inside.
      let within : c < rows * columns = omega (arith, length-side_moves rows columns, inside) in
      rw (length-side_moves rows columns, side_moves_from rows columns c within) (row_right (rows * columns) columns c within);
}

-- the worked grids
pub worked_sides : WorkedSides
unfolding side_moves
worked_sides = record { two_in_a_row = refl; two_in_a_column = refl; middle = refl; neighbours = refl; end_of_a_row = refl; begin_of_a_row = refl }
