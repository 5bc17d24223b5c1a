-- The rows of the table, from the last period back.
use Rattle.std.proofs.Common.{ℕ, suc, ◌+◌, ◌-◌, ◌*◌, ◌^◌, ◌≤◌, ◌<◌, ◌≡◌, List, map, length, slice_index, inl, inr, sym, refl, ap, ◌∙◌, subst, arith, mul-le-mul_right, Contains}
use Rattle.std.proofs.Math.Nat.{le_refl}
use Rattle.std.proofs.lemmas.List.Elements.{All-weaker, All-contains_itself}
use Rattle.search_model.proofs.LegalLemmas.{move_within}
use Rattle.std.proofs.lemmas.Bool.{cases_lt}
use Rattle.search_grid.specs.Moves.{moves_from, IsGrid}
use Rattle.search_model.specs.Bounds.{greatest}
use Rattle.longest_walk.specs.Sums.{entry_at, highest_sum}
use Rattle.search_model.specs.Reference.{greatest_sum}
use Rattle.longest_walk.specs.Rows.{sums_at}
use Rattle.longest_walk.specs.Near.{IsNear}
use Rattle.longest_walk.specs.Tables.{Tables, HasSums, IsFilled, HasSumsNear, IsFilledNear}
use Rattle.list_laws.proofs.Agreeing.{map_agree}
use Rattle.longest_walk.proofs.NearSteps.{near_within}
use Rattle.longest_walk.proofs.Steps.{sum_through, greatest_sum-zero, greatest_sum-suc}
use Rattle.longest_walk.proofs.Highest.{highest_above_reward, highest_above, highest_sum-suc, highest_sum-later}

-- the sums of the periods after p for some positions of each period, by their rewards
abbrev pub HasSumsOf : List (List ℕ) → ℕ → (ℕ → ℕ → ℕ) → (ℕ → ℕ → Type 0) → ℕ → List ℕ → Type 0
HasSumsOf rows horizon r N p sums =
    (t q : ℕ) → p < t → t ≤ horizon → N t q → entry_at (length rows) sums t q ≡ r t q + greatest_sum rows r (horizon - t) (t + 1) q

-- in the last period they are the rewards
pub HasSumsOf-last : (rows : List (List ℕ)) (horizon : ℕ) (r : ℕ → ℕ → ℕ) (N : ℕ → ℕ → Type 0) (rewards sums : List ℕ) → 1 ≤ horizon →
    ((i : ℕ) → (horizon - 1) * length rows ≤ i → slice_index sums i ≡ slice_index rewards i) → ((q : ℕ) → N horizon q → entry_at (length rows) rewards horizon q ≡ r horizon q) →
    HasSumsOf rows horizon r N (horizon - 1) sums
HasSumsOf-last rows horizon r N rewards sums some same are t q after within here =
    let last : t ≡ horizon = omega (arith, some, after, within) in
    let none : horizon - t ≡ 0 = omega (arith, last) in
    let nothing : greatest_sum rows r (horizon - t) (t + 1) q ≡ 0 = rw none (greatest_sum-zero rows r (t + 1) q) in
    let place : (horizon - 1) * length rows ≤ (t - 1) * length rows + q = rw last (omega arith) in
    let reward : entry_at (length rows) rewards t q ≡ r t q = rw last (are q (subst (λ (u : ℕ). N u q) last here)) in
    omega (arith, same ((t - 1) * length rows + q) place, reward, nothing)

module _ (rows : List (List ℕ)) (grid : IsGrid rows) (horizon : ℕ) (r : ℕ → ℕ → ℕ) (N : ℕ → ℕ → Type 0) (sums : List ℕ) (p : ℕ) (filled : HasSumsOf rows horizon r N p sums) (below : p < horizon) where
  -- an entry of the row of the period after p, by its place
  pub next_entry : (d : ℕ) → N (p + 1) d → slice_index sums (p * length rows + d) ≡ sum_through rows r (horizon - (p + 1)) (p + 1) d
  next_entry d there =
      let back : p + 1 - 1 ≡ p = omega arith in
      let e : entry_at (length rows) sums (p + 1) d ≡ sum_through rows r (horizon - (p + 1)) (p + 1) d = filled (p + 1) d (omega arith) (omega (arith, below)) there in
      ap (λ i. slice_index sums (i * length rows + d)) (sym back) ∙ e

  -- the entries of some moves
  pub next_entries : (q : ℕ) → ((d : ℕ) → Contains (moves_from rows q) d → N (p + 1) d) →
      sums_at sums (p * length rows) (moves_from rows q) ≡ map (sum_through rows r (horizon - (p + 1)) (p + 1)) (moves_from rows q)
  next_entries q on =
      map_agree (λ d. slice_index sums (p * length rows + d)) (sum_through rows r (horizon - (p + 1)) (p + 1)) (moves_from rows q)
      (All-weaker (Contains (moves_from rows q)) (λ d. slice_index sums (p * length rows + d) ≡ sum_through rows r (horizon - (p + 1)) (p + 1) d)
      (λ d move. next_entry d (on d move)) (moves_from rows q) (All-contains_itself (moves_from rows q)))

  -- the greatest of them is the greatest sum over the walks that go on after period p
  pub next_greatest : (q : ℕ) → q < length rows → ((d : ℕ) → Contains (moves_from rows q) d → N (p + 1) d) →
      greatest (sums_at sums (p * length rows) (moves_from rows q)) ≡ greatest_sum rows r (horizon - p) (p + 1) q
  next_greatest q within on =
      let n : ℕ = horizon - (p + 1) in
      let long : suc n ≡ horizon - p = omega (arith, below) in
      ap greatest (next_entries q on)
      ∙ sym (greatest_sum-suc rows grid r n (p + 1) q within)
      ∙ ap (λ m. greatest_sum rows r m (p + 1) q) long

  -- the sums of period p fit, since the highest rewards of the periods after k do
  pub next_fits : (k q : ℕ) → k < p → q < length rows → ((d : ℕ) → Contains (moves_from rows q) d → N (p + 1) d) → highest_sum (length rows) r (horizon - k) (k + 1) < 2 ^ 127 →
      r p q + greatest (sums_at sums (p * length rows) (moves_from rows q)) < 2 ^ 128
  next_fits k q after within on fits =
      let j : ℕ = p - (k + 1) in
      let place : k + 1 + j ≡ p = omega (arith, after) in
      let periods : j + suc (horizon - p) ≡ horizon - k = omega (arith, after, below) in
      let later : highest_sum (length rows) r (suc (horizon - p)) (k + 1 + j) ≤ highest_sum (length rows) r (j + suc (horizon - p)) (k + 1) =
      highest_sum-later (length rows) r j (suc (horizon - p)) (k + 1) in
      let most : highest_sum (length rows) r (suc (horizon - p)) p ≤ highest_sum (length rows) r (horizon - k) (k + 1) = rw (place, periods) at later in
      let reward = highest_above_reward (length rows) r p q within in
      let rest = highest_above rows r (horizon - p) (p + 1) q grid within in
      omega (arith, fits, most, reward, rest, highest_sum-suc (length rows) r (horizon - p) p, next_greatest q within on)

  -- one row more
  pub HasSumsOf-more : (after : List ℕ) → 1 ≤ p →
      ((q : ℕ) → N p q → (q < length rows) × ((d : ℕ) → Contains (moves_from rows q) d → N (p + 1) d)) →
      ((q : ℕ) → N p q → slice_index after ((p - 1) * length rows + q) ≡ r p q + greatest (sums_at sums (p * length rows) (moves_from rows q))) →
      ((i : ℕ) → p * length rows ≤ i → slice_index after i ≡ slice_index sums i) →
      HasSumsOf rows horizon r N (p - 1) after
  HasSumsOf-more after some closed row later t q from to here = elim (cases_lt p t) [
    | inl past ↦
        (let place : p * length rows ≤ (t - 1) * length rows = mul-le-mul_right (length rows) (let l : p ≤ t - 1 = omega (arith, past) in l) in
        later ((t - 1) * length rows + q) (omega (arith, place)) ∙ filled t q past to here)
    | inr not_past ↦
        (let same : t ≡ p = omega (arith, some, from, not_past) in
        let there : N p q = subst (λ (u : ℕ). N u q) same here in
        let parts = closed q there in
        rw same (row q there ∙ ap (λ v. r p q + v) (next_greatest q parts.0 parts.1)))
  ]

-- all positions of each period
abbrev pub AllPositions : List (List ℕ) → ℕ → ℕ → Type 0
AllPositions rows t q = q < length rows

-- the positions within reach of one, after period k
abbrev pub NearPositions : List (List ℕ) → ℕ → ℕ → ℕ → ℕ → Type 0
NearPositions rows from k t q = IsNear rows (t - k) from q

-- the moves of positions are positions
pub all_closed : (rows : List (List ℕ)) → IsGrid rows → (p q : ℕ) → q < length rows → (q < length rows) × ((d : ℕ) → Contains (moves_from rows q) d → AllPositions rows (p + 1) d)
all_closed rows grid p q here = (here, λ d move. move_within rows grid q d here move)

-- the moves of positions within reach are within reach a period later
pub near_closed : (rows : List (List ℕ)) → IsGrid rows → (from k p q : ℕ) → from < length rows → k ≤ p → NearPositions rows from k p q →
    (q < length rows) × ((d : ℕ) → Contains (moves_from rows q) d → NearPositions rows from k (p + 1) d)
near_closed rows grid from k p q start le near =
    let more : p + 1 - k ≡ suc (p - k) = omega (arith, le) in
    (near_within rows grid (p - k) from q start near, λ d move. rw more (inr (q, near, move)))

-- the tables are filled where the rows are, and the best is the greatest over the moves of the first position
pub IsFilled-from : (rows : List (List ℕ)) → IsGrid rows → (w : Tables) (rewards : List ℕ) (k : ℕ) → length rows ≡ w.positions → HasSums rows (length rows) w.horizon rewards k w.sums → k < w.horizon → w.from < w.positions →
    w.best ≡ greatest (sums_at w.sums (k * w.positions) (moves_from rows w.from)) → IsFilled w rows rewards w.from k
IsFilled-from rows grid w rewards k positions filled below within best = record {
  grid = grid;
  positions = positions;
  start = refl;
  best = best ∙ subst P positions (next_greatest rows grid w.horizon (entry_at (length rows) rewards) (AllPositions rows) w.sums k filled below w.from here (all_closed rows grid k w.from here).1);
  sums = subst (λ n. HasSums rows n w.horizon rewards k w.sums) positions filled;
}
  where
    here : w.from < length rows
    here = rw positions within

    P : ℕ → Type 0
    P = λ n. greatest (sums_at w.sums (k * n) (moves_from rows w.from)) ≡ greatest_sum rows (entry_at n rewards) (w.horizon - k) (k + 1) w.from

-- and so are tables that are filled near
pub IsFilledNear-from : (rows : List (List ℕ)) → IsGrid rows → (w : Tables) (r : ℕ → ℕ → ℕ) (k : ℕ) → length rows ≡ w.positions → HasSumsNear rows (length rows) w.horizon r w.from k w.sums → k < w.horizon → w.from < w.positions →
    w.best ≡ greatest (sums_at w.sums (k * w.positions) (moves_from rows w.from)) → IsFilledNear w rows r w.from k
IsFilledNear-from rows grid w r k positions filled below within best = record {
  grid = grid;
  positions = positions;
  start = refl;
  best = best ∙ subst P positions (next_greatest rows grid w.horizon r (NearPositions rows w.from k) w.sums k filled below w.from here (near_closed rows grid w.from k k w.from here (le_refl k) at_home).1);
  sums = subst (λ n. HasSumsNear rows n w.horizon r w.from k w.sums) positions filled;
}
  where
    here : w.from < length rows
    here = rw positions within

    at_home : IsNear rows (k - k) w.from w.from
    at_home = let none : k - k ≡ 0 = omega arith in rw none refl

    P : ℕ → Type 0
    P = λ n. greatest (sums_at w.sums (k * n) (moves_from rows w.from)) ≡ greatest_sum rows r (w.horizon - k) (k + 1) w.from

-- tables that are filled for all positions are filled for those within reach
pub filled_near : (w : Tables) (rows : List (List ℕ)) (rewards : List ℕ) (from k : ℕ) → w.from < w.positions → IsFilled w rows rewards from k → IsFilledNear w rows (entry_at w.positions rewards) from k
filled_near w rows rewards from k here filled = record {
  grid = filled.grid;
  positions = filled.positions;
  start = filled.start;
  best = filled.best;
  sums = λ t q after last near. filled.sums t q after last
      (rw (← filled.positions) (near_within rows filled.grid (t - k) from q (rw filled.positions (rw (← filled.start) here)) near));
}
