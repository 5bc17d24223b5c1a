-- How often each cell is among some.
use Rattle.std.proofs.Common.{ℕ, ◌+◌, ◌<◌, ◌≤◌, ◌≡◌, ◌≢◌, List, [], ◌∷◌, ◌++◌, length, get_or, set, cond, sym, ap, ◌∙◌, arith, inl, inr, get_or-set_same, get_or-set_other, append_assoc}
use Rattle.std.specs.Prelude.{◌==◌, if◌then◌else◌, ◌*◌, All, count_by, sum, replicate}
use Rattle.std.proofs.Math.ListN.{length-set, length-replicate}
use Rattle.std.proofs.lemmas.Bool.{eq-eqb, ne_eqb, cases_eq}
use Rattle.std.proofs.lemmas.List.{append-nil, get_or-replicate}
use Rattle.std.proofs.lemmas.List.Elements.{All-head, All-tail, All-replicate}
use Rattle.std.proofs.lemmas.List.FromFn.{length-map-range_with_len, get_or-map-range_with_len, fill_by_all}
use Rattle.std.proofs.lemmas.List.Sums.{sum_by_push, sum_by-set, sum_by-le, count_by-le-length}
use Rattle.scenario_maker.specs.Generator.{state_after, draw_below, draws_below}
use Rattle.scenario_maker.specs.Made.{counts_of}
use Rattle.scenario_maker.proofs.Draws.{draws_more, length-same_draws}

pub length-counts_of : (n : ℕ) (xs : List ℕ) → length (counts_of n xs) ≡ n
unfolding counts_of
length-counts_of n xs = length-map-range_with_len (λ c. count_by (λ x. x == c) xs) 0 n

count_at : (n : ℕ) (xs : List ℕ) (c d : ℕ) → c < n → get_or (counts_of n xs) c d ≡ count_by (λ x. x == c) xs
unfolding counts_of
count_at n xs c d lt = get_or-map-range_with_len (λ c. count_by (λ x. x == c) xs) 0 n c c d lt (omega arith)

-- a count is no more than there are
count_at-le : (n : ℕ) (xs : List ℕ) (c d : ℕ) → c < n → get_or (counts_of n xs) c d ≤ length xs
count_at-le n xs c d lt = omega (arith, count_at n xs c d lt, count_by-le-length (λ x. x == c) xs)

-- where there are none, none is counted
pub counts_of-none : (n : ℕ) → replicate n 0 ≡ counts_of n []
unfolding counts_of
counts_of-none n = fill_by_all (λ c. count_by (λ x. x == c) []) (replicate n 0) n 0 (length-replicate n 0) (λ k lt. get_or-replicate n k 0 0 lt)

-- a list with the counts of all cells
counts_are : (n : ℕ) (ys zs : List ℕ) → length zs ≡ n → ((k : ℕ) → k < n → get_or zs k 0 ≡ count_by (λ y. y == k) ys) → zs ≡ counts_of n ys
unfolding counts_of
counts_are n ys zs long each = fill_by_all (λ c. count_by (λ y. y == c) ys) zs n 0 long each

-- one more raises its cell's count
counts_of-push : (n : ℕ) (xs : List ℕ) (x d : ℕ) → x < n → set (counts_of n xs) x (get_or (counts_of n xs) x d + 1) ≡ counts_of n (xs ++ x ∷ [])
counts_of-push n xs x d lt =
    let old = counts_of n xs in
    let one = get_or old x d + 1 in
    let long : length (set old x one) ≡ n = length-set old x one ∙ length-counts_of n xs in
    let inside : x < length old = rw length-counts_of lt in
    let each : (k : ℕ) → k < n → get_or (set old x one) k 0 ≡ count_by (λ y. y == k) (xs ++ x ∷ []) = λ k within.
    let pushed : count_by (λ y. y == k) (xs ++ x ∷ []) ≡ count_by (λ y. y == k) xs + (if x == k then 1 else 0) = sum_by_push (λ y. cond (y == k) 1 0) xs x in
    elim (cases_eq x k) [
      | inl same ↦
          let here : get_or (set old x one) k 0 ≡ one = ap (λ j. get_or (set old x one) j 0) (sym same) ∙ get_or-set_same old x one 0 inside in
          let was = count_at n xs x d lt in
          rw (here, pushed, eq-eqb x k same, was) (ap (λ j. count_by (λ y. y == j) xs + 1) same)
      | inr apart ↦
          let other : k ≢ x = λ e. apart (sym e) in
          let here : get_or (set old x one) k 0 ≡ get_or old k 0 = get_or-set_other old x k one 0 other in
          rw (here, pushed, ne_eqb x k apart, count_at n xs k 0 within) (omega arith)
    ] in
    counts_are n (xs ++ x ∷ []) (set old x one) long each

-- each adds one to the counts of all cells together
sum_more : (n : ℕ) (xs : List ℕ) (x : ℕ) → x < n → sum (counts_of n (xs ++ x ∷ [])) ≡ sum (counts_of n xs) + 1
sum_more n xs x lt =
    let old = counts_of n xs in
    let inside : x < length old = rw length-counts_of lt in
    let written = sum_by-set (λ y. y) old x (get_or old x 0 + 1) 0 inside in
    let pushed = ap sum (counts_of-push n xs x 0 lt) in
    omega (arith, written, pushed)

sum_all : (n : ℕ) (xs ys : List ℕ) → All (λ x. x < n) xs → sum (counts_of n (ys ++ xs)) ≡ sum (counts_of n ys) + length xs
sum_all n [] ys below = rw append-nil (omega arith)
sum_all n (x ∷ xs) ys below =
    let more = sum_all n xs (ys ++ x ∷ []) (All-tail (λ x. x < n) x xs below) in
    let one = sum_more n ys x (All-head (λ x. x < n) x xs below) in
    rw append_assoc at more ∙ rw one (omega arith)

-- the counts of all cells together are as many as there are
pub sum-counts_of : (n : ℕ) (xs : List ℕ) → All (λ x. x < n) xs → sum (counts_of n xs) ≡ length xs
sum-counts_of n xs below =
    let none : sum (replicate n 0) ≤ length (replicate n 0) * 0 = sum_by-le (λ y. y) 0 (replicate n 0) (All-replicate (λ y. y ≤ 0) n 0 (omega arith)) in
    let start = ap sum (counts_of-none n) in
    omega (arith, sum_all n xs [] below, none, start)

-- a draw more is counted
pub counts_of-draw : (k s state cell count : ℕ) (counts : List ℕ) → state ≡ state_after k s → counts ≡ counts_of 25 (draws_below (replicate k 25) s) → cell ≡ draw_below 25 state → cell < 25 →
    count ≡ get_or counts cell count → set counts cell (count + 1) ≡ counts_of 25 (draws_below (replicate (k + 1) 25) s)
counts_of-draw k s state cell count counts at so_far drawn lt is =
    let ds = draws_below (replicate k 25) s in
    let same : draw_below 25 (state_after k s) ≡ cell = ap (draw_below 25) (sym at) ∙ sym drawn in
    let now : count ≡ get_or (counts_of 25 ds) cell count = is ∙ ap (λ (xs : List ℕ). get_or xs cell count) so_far in
    let written : set counts cell (count + 1) ≡ set (counts_of 25 ds) cell (get_or (counts_of 25 ds) cell count + 1) =
    ap (λ (xs : List ℕ). set xs cell (count + 1)) so_far ∙ ap (λ n. set (counts_of 25 ds) cell (n + 1)) now in
    written ∙ counts_of-push 25 ds cell count lt ∙ ap (λ d. counts_of 25 (ds ++ d ∷ [])) (sym same) ∙ ap (counts_of 25) (sym (draws_more k 25 s))

-- how many of so many draws go to a cell
pub counted_few : (k s cell count : ℕ) (counts : List ℕ) → counts ≡ counts_of 25 (draws_below (replicate k 25) s) → cell < 25 → count ≡ get_or counts cell count → count ≤ k
counted_few k s cell count counts so_far lt is =
    let ds = draws_below (replicate k 25) s in
    let now : count ≡ get_or (counts_of 25 ds) cell count = is ∙ ap (λ (xs : List ℕ). get_or xs cell count) so_far in
    omega (arith, now, count_at-le 25 ds cell count lt, length-same_draws k 25 s)
