-- The cells of the grid of 5 by 5: their names, their moves and their drift rows.
use Rattle.std.proofs.Common.{ℕ, ◌-◌, ◌*◌, ◌≤◌, ◌≡◌, true, List, [], length, refl, sym, ◌∙◌, subst, arith, inl, inr}
use Rattle.std.specs.Prelude.{nat_le, All}
use Rattle.std.specs.List.{list_all}
use Rattle.std.specs.Fmt.{digits}
use Rattle.std.proofs.Math.Nat.{mul-le-mul_left}
use Rattle.std.proofs.lemmas.Bool.{leb-true, cases_eq, cases_lt}
use Rattle.std.proofs.lemmas.List.{get_or_past}
use Rattle.std.proofs.lemmas.List.FromFn.{length-map-range_with_len}
use Rattle.search_grid.specs.Sides.{moves_beside, side_moves}
use Rattle.drift_chain.specs.DriftRows.{drift_over, IsDrift, IsDriftRow}
use Rattle.period_rows.specs.Rows.{row_at}
use Rattle.drift_chain.proofs.Drifts.{IsDrift-from_rows}
use Rattle.search_grid.specs.Moves.{moves_from}
use Rattle.search_model.specs.Names.{IsName, IsRepeated, is_name}
use Rattle.search_model.specs.Grids.{grid_name, grid_names, spread_row, spread_rows}
use Rattle.search_model.proofs.NameLemmas.{is_name_tells}
use Rattle.scenario_maker.proofs.ByTest.{All-by_test, is_drift_row, IsDriftRow-by_test, differ-apart}

pub names_right : All IsName (grid_names 5 5)
unfolding digits is_name
names_right = All-by_test is_name IsName is_name_tells (grid_names 5 5) refl

pub names_apart : (c : ℕ) → ¬ IsRepeated (grid_names 5 5) c
unfolding digits
names_apart = differ-apart (grid_names 5 5) refl

pub length-grid_names : length (grid_names 5 5) ≡ 25
length-grid_names = length-map-range_with_len (grid_name 5) 0 25

-- a cell has five moves at most
pub few_moves : All (λ row. length row ≤ 5) (side_moves 5 5)
unfolding side_moves
few_moves = All-by_test (λ row. nat_le (length row) 5) (λ row. length row ≤ 5) (λ row. leb-true (length row) 5) (side_moves 5 5) refl

pub length-side_moves : length (side_moves 5 5) ≡ 25
unfolding side_moves
length-side_moves = length-map-range_with_len (moves_beside 5 5) 0 25

pub length-spread_rows : (part : ℕ) → length (spread_rows 12 part (side_moves 5 5)) ≡ 25
length-spread_rows part = length-map-range_with_len (λ c. spread_row 12 part c (moves_from (side_moves 5 5) c)) 0 (length (side_moves 5 5)) ∙ length-side_moves

-- the moves of a position, where no row has more
pub row_few : (rows : List (List ℕ)) (m a : ℕ) → All (λ row. length row ≤ m) rows → length (moves_from rows a) ≤ m
unfolding moves_from
row_few rows m a few = elim (cases_lt a (length rows)) [
  | inl inside ↦ few a [] inside
  | inr past ↦ rw (get_or_past rows a [] past) (omega arith)
]

-- what goes to side neighbours
pub taken_few : (part moves : ℕ) → part ≤ 3 → moves ≤ 5 → part * (moves - 1) ≤ 12
taken_few part moves few short =
    let fits : moves - 1 ≤ 4 = omega arith in
    let wide : part * (moves - 1) ≤ part * 4 = mul-le-mul_left part fits in
    omega (arith, wide)

-- rows that pass the test make a drift
rows_right : (part : ℕ) → list_all (is_drift_row 12 25) (spread_rows 12 part (side_moves 5 5)) ≡ true → IsDrift (drift_over 12 (spread_rows 12 part (side_moves 5 5)))
unfolding row_at
rows_right part passes =
    let rows = spread_rows 12 part (side_moves 5 5) in
    let all = All-by_test (is_drift_row 12 25) (IsDriftRow 12 25) (IsDriftRow-by_test 12 25) rows passes in
    let long = length-spread_rows part in
    IsDrift-from_rows 12 rows 25 (sym long) (omega arith, omega arith) (omega arith, omega arith) (λ c lt. all c [] (omega (arith, lt, long)))

one_part : list_all (is_drift_row 12 25) (spread_rows 12 1 (side_moves 5 5)) ≡ true
unfolding spread_row side_moves moves_from
one_part = refl

two_parts : list_all (is_drift_row 12 25) (spread_rows 12 2 (side_moves 5 5)) ≡ true
unfolding spread_row side_moves moves_from
two_parts = refl

three_parts : list_all (is_drift_row 12 25) (spread_rows 12 3 (side_moves 5 5)) ≡ true
unfolding spread_row side_moves moves_from
three_parts = refl

-- a part of 1, 2 or 3 leaves each cell enough
pub drift_right : (part : ℕ) → 1 ≤ part → part ≤ 3 → IsDrift (drift_over 12 (spread_rows 12 part (side_moves 5 5)))
drift_right part some few =
    let P : ℕ → Type 0 = λ n. IsDrift (drift_over 12 (spread_rows 12 n (side_moves 5 5))) in
    elim (cases_eq part 1) [
      | inl one ↦ subst P (sym one) (rows_right 1 one_part)
      | inr above ↦ elim (cases_eq part 2) [
        | inl two ↦ subst P (sym two) (rows_right 2 two_parts)
        | inr most ↦ let three : part ≡ 3 = omega arith in subst P (sym three) (rows_right 3 three_parts)
      ]
    ]
