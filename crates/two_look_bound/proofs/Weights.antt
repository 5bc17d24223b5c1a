-- Sums of shares, one for each entry of a row, times the numbers of their cells.
use Rattle.std.proofs.Common.{ℕ, zero, suc, ◌+◌, ◌*◌, ◌-◌, ◌<◌, ◌≤◌, ◌≡◌, List, length, take, slice_index, slice_index_or, ap, ◌∙◌, arith, sum_by, All}
use Rattle.std.proofs.Math.Nat.{mul-le-mul_right}
use Rattle.std.specs.List.{range_with_len}
use Rattle.std.proofs.lemmas.List.{take_all}
use Rattle.std.proofs.lemmas.List.Elements.{All-get_or}
use Rattle.std.proofs.lemmas.List.Sums.{sum_by_more, sum_by_more_le}
use Rattle.period_rows.specs.declared.part.CellPart.{CellPart}
use Rattle.drift_chain.specs.DriftRows.{row_of, part_in}
use Rattle.sweep_table.specs.LookParts.{look_row, misses}
use Rattle.search_model.specs.Problem.{Problem, IsProblem}
use Rattle.search_model.specs.Tracks.{whole_weight}
use Rattle.search_model.proofs.LookRows.{covered_cell}
use Rattle.list_laws.proofs.Sums.{sum_by-range-suc}
use Rattle.belief_update.specs.Found.{found_in, found_of}
use Rattle.belief_update.specs.Masses.{mass_of, looks_to}
use Rattle.edge_bound.specs.Found.{one_of}
use Rattle.edge_bound.specs.After.{going_on}
use Rattle.edge_bound.specs.Moves.{HasShares}
use Rattle.edge_bound.specs.Units.{UnitTable, HasUnits, unit_at}
use Rattle.two_look_bound.specs.Pairs.{IsMiddle}
use Rattle.two_look_bound.specs.Taken.{two_of, taken_to, parts_after_two, joint_of, HasLess, weighted_sum}
use Rattle.two_look_bound.specs.Rooms.{HasTwos}
use Rattle.two_look_bound.proofs.Fitting.{taken_to-within}

module _ (p : Problem) (u : UnitTable) (t b : ℕ) (row : List CellPart) (shares : List ℕ) (f h : ℕ → ℕ) (parts : ℕ)
    (each : (i : ℕ) → i < length row → slice_index shares i ≡ found_in p f (slice_index_or row i (misses 0 0)) * parts)
    (numbers : All (λ (e : CellPart). unit_at u t e.cell b ≡ h e.cell) row) where
  front : (n : ℕ) → n ≤ length row →
      sum_by (λ i. slice_index shares i * unit_at u t (slice_index_or row i (misses 0 0)).cell b) (range_with_len 0 n) ≡ sum_by (found_in p (λ d. f d * h d)) (take n row) * parts
  front zero less = omega arith
  front (suc n) less =
      let here : n < length row = omega (arith, less) in
      let one : n + 1 ≡ suc n = omega arith in
      let e = slice_index_or row n (misses 0 0) in
      let g = p.sweep.denominator in
      let number = All-get_or (λ (e : CellPart). unit_at u t e.cell b ≡ h e.cell) row n (misses 0 0) here numbers in
      let more = rw one at (sum_by_more (found_in p (λ d. f d * h d)) row n (misses 0 0) here) in
      let last : slice_index shares n * unit_at u t e.cell b ≡ f e.cell * h e.cell * (g - e.part) * parts = rw (each n here, number) (omega arith) in
      rw (sum_by-range-suc (λ i. slice_index shares i * unit_at u t (slice_index_or row i (misses 0 0)).cell b) n, more) (omega (arith, front n (omega (arith, less)), last))

  -- where the shares are what a look finds of some masses in each cell of its row, in some parts, the sum is what it finds of the
  -- masses times the numbers
  pub weighted_is : weighted_sum u t b row shares ≡ sum_by (found_in p (λ d. f d * h d)) row * parts
  weighted_is = front (length row) (omega arith) ∙ ap (λ (r : List CellPart). sum_by (found_in p (λ d. f d * h d)) r * parts) (take_all (length row) row (omega arith))

-- what holds of each cell holds of those that a look covers
pub look_cells : (p : Problem) → IsProblem p → (t a : ℕ) (P : ℕ → Type 0) → ((d : ℕ) → d < p.cells → P d) → All (λ (e : CellPart). P e.cell) (look_row p.sweep t a)
look_cells p sound t a P each = λ i e inside. each _ (covered_cell p sound t a i e inside)

module _ (p : Problem) (sound : IsProblem p) (q : List ℕ) (s a b c : ℕ) (u : UnitTable) (row : List CellPart) (shares : List ℕ) (there : c < p.positions) where
  -- what three looks would find one after the other
  pub joint_sum : IsMiddle p q s → HasUnits p u → row ≡ look_row p.sweep s b → HasLess p q s a b shares → weighted_sum u (s + 1) c row shares ≡ joint_of p q s a b c
  joint_sum middle units is less =
      let numbers = look_cells p sound s b (λ d. unit_at u (s + 1) d c ≡ one_of p (s + 1) d c) (λ d here. units.each (s + 1) d c (omega (arith, middle.later)) middle.last here there) in
      rw is (weighted_is p u (s + 1) c (look_row p.sweep s b) shares (taken_to p q s a) (λ d. one_of p (s + 1) d c) (parts_after_two p q s) less numbers)

  -- what the first and the last of three would find, in the parts that come after all of them
  pub skip_sum : IsMiddle p q s → HasTwos p u → row ≡ look_row p.sweep (s - 1) a → HasShares p q s a (parts_after_two p q s) shares →
      weighted_sum u s c row shares ≡ found_of p (s - 1) a (λ d. mass_of p (looks_to (s - 1) q) d * two_of p s d c) * parts_after_two p q s
  skip_sum middle twos is each =
      let numbers = look_cells p sound (s - 1) a (λ d. unit_at u s d c ≡ two_of p s d c) (λ d here. twos.each s d c (omega (arith, middle.later)) middle.last here there) in
      rw is (weighted_is p u s c (look_row p.sweep (s - 1) a) shares (mass_of p (looks_to (s - 1) q)) (λ d. two_of p s d c) (parts_after_two p q s) each numbers)

-- What is taken of the mass of a cell, entry by entry.
module _ (p : Problem) (q : List ℕ) (s a i : ℕ) (before row : List CellPart) (share : ℕ) (is : before ≡ look_row p.sweep (s - 1) a) (inside : i < length before)
    (found : share ≡ found_in p (mass_of p (looks_to (s - 1) q)) (slice_index_or before i (misses 0 0)) * parts_after_two p q s)
    (sent : row ≡ row_of p.drift (s - 1) (slice_index_or before i (misses 0 0)).cell)
    (e now : ℕ) (so_far : now ≡ sum_by (found_in p (going_on p q s e)) (take i before) * parts_after_two p q s) where
  -- what one of them takes
  taken_by_entry : share * part_in row e ≡ found_in p (going_on p q s e) (slice_index_or before i (misses 0 0)) * parts_after_two p q s
  taken_by_entry = rw (found, sent) (omega arith)

  pub taken_more : now + share * part_in row e ≡ sum_by (found_in p (going_on p q s e)) (take (i + 1) before) * parts_after_two p q s
  taken_more =
      let more = sum_by_more (found_in p (going_on p q s e)) before i (misses 0 0) inside in
      omega (arith, taken_by_entry, so_far, ap (λ (n : ℕ). n * parts_after_two p q s) more)

  -- all of it fits
  pub taken_more-within : IsProblem p → IsMiddle p q s → e < p.cells → now + share * part_in row e ≤ whole_weight p
  taken_more-within sound middle there =
      let most = taken_to-within p sound q s middle a e there in
      let more = sum_by_more_le (found_in p (going_on p q s e)) before i (misses 0 0) inside in
      omega (arith, taken_by_entry, so_far, mul-le-mul_right (parts_after_two p q s) more, rw (← is) at most)
