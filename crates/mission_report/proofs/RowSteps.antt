-- The lines of periods and of cells, one after the other.
use Rattle.std.proofs.Common.{ℕ, ◌+◌, ◌*◌, ◌-◌, ◌<◌, ◌≤◌, ◌≡◌, List, [], ◌∷◌, ◌++◌, map, length, get_or, take, take_all, slice_index, refl, sym, ap, ◌∙◌, arith, zero-add}
use Rattle.std.specs.List.{flat_map, range_with_len}
use Rattle.std.proofs.lemmas.List.{length-map, take_more}
use Rattle.std.proofs.lemmas.List.FromFn.{length-range_with_len, get_or-range_with_len, get_or-map-range_with_len}
use Rattle.text_rows.specs.Rows.{text_of}
use Rattle.text_rows.proofs.RowLemmas.{text_of-append, text_of-more}
use Rattle.exact_parts.proofs.AppendLemmas.{then_more}
use Rattle.list_laws.proofs.Changed.{flat_map-push}
use Rattle.search_model.specs.Problem.{Problem}
use Rattle.search_model.specs.Tracks.{whole_weight}
use Rattle.mission_report.specs.Account.{value_up_to, values_along}
use Rattle.mission_report.specs.Report.{period_row, period_of, left_row}

-- the line of a cell, by masses and the parts to come
abbrev pub left_by : Problem → List ℕ → ℕ → ℕ → List (List ℕ)
left_by p masses later c = left_row p c (slice_index masses c * later)

-- A line for each of some numbers that follow each other.
module _ (f : ℕ → List (List ℕ)) (a n : ℕ) where
  abbrev pub lines_to : ℕ → List ℕ
  lines_to k = text_of (map f (take k (range_with_len a n)))

  within : (k : ℕ) → k < n → k < length (range_with_len a n)
  within k lt = omega (arith, length-range_with_len a n, lt)

  -- one line more
  pub line_more : (k : ℕ) (row : List (List ℕ)) (old mid now : List ℕ) → k < n → row ≡ f (a + k) → mid ≡ old ++ lines_to k → now ≡ mid ++ text_of (row ∷ []) → now ≡ old ++ lines_to (k + 1)
  line_more k row old mid now lt is e line =
      let next : get_or (range_with_len a n) k 0 ≡ a + k = get_or-range_with_len a n k 0 lt in
      let more : lines_to (k + 1) ≡ lines_to k ++ text_of (row ∷ []) = rw (is, ← next) (text_of-more f (range_with_len a n) k 0 (within k lt)) in
      then_more old mid now (lines_to k) (text_of (row ∷ [])) e line ∙ ap (λ (t : List ℕ). old ++ t) (sym more)

  -- all lines
  pub lines_all : (k : ℕ) (old now : List ℕ) → n ≤ k → now ≡ old ++ lines_to k → now ≡ old ++ text_of (map f (range_with_len a n))
  lines_all k old now le e = rw (take_all k (range_with_len a n) (omega (arith, length-range_with_len a n, le))) at e

-- Some lines for each of some numbers that follow each other.
module _ (g : ℕ → List (List (List ℕ))) (a n : ℕ) where
  abbrev pub blocks_to : ℕ → List ℕ
  blocks_to k = text_of (flat_map g (take k (range_with_len a n)))

  blocks_one_more : (k : ℕ) → k < n → blocks_to (k + 1) ≡ blocks_to k ++ text_of (g (a + k))
  blocks_one_more k lt =
      let xs = range_with_len a n in
      let next : get_or xs k 0 ≡ a + k = get_or-range_with_len a n k 0 lt in
      ap (λ (ys : List ℕ). text_of (flat_map g ys)) (take_more xs k 0 (omega (arith, length-range_with_len a n, lt)))
      ∙ ap text_of (flat_map-push g (take k xs) (get_or xs k 0))
      ∙ text_of-append (flat_map g (take k xs)) (g (get_or xs k 0))
      ∙ ap (λ (d : ℕ). blocks_to k ++ text_of (g d)) next

  -- those of one number more
  pub block_more : (k : ℕ) (old mid now : List ℕ) → k < n → mid ≡ old ++ blocks_to k → now ≡ mid ++ text_of (g (a + k)) → now ≡ old ++ blocks_to (k + 1)
  block_more k old mid now lt e lines =
      then_more old mid now (blocks_to k) (text_of (g (a + k))) e lines ∙ ap (λ (t : List ℕ). old ++ t) (sym (blocks_one_more k lt))

  -- those of all
  pub blocks_all : (k : ℕ) (old now : List ℕ) → n ≤ k → now ≡ old ++ blocks_to k → now ≡ old ++ text_of (flat_map g (range_with_len a n))
  blocks_all k old now le e = rw (take_all k (range_with_len a n) (omega (arith, length-range_with_len a n, le))) at e

-- each period has its value
pub values_long : (p : Problem) (q values : List ℕ) → values ≡ values_along p q → length values ≡ p.horizon
values_long p q values e = ap length e ∙ length-map (range_with_len 1 p.horizon) (value_up_to p q) ∙ length-range_with_len 1 p.horizon

pub value_at : (p : Problem) (q values : List ℕ) (i : ℕ) → values ≡ values_along p q → i < p.horizon → slice_index values i ≡ value_up_to p q (1 + i)
value_at p q values i e lt = rw e (get_or-map-range_with_len (value_up_to p q) 1 p.horizon i (1 + i) 0 lt refl)

-- a value is a part of the whole weight
pub value_part : (p : Problem) (q values : List ℕ) (i : ℕ) → values ≡ values_along p q → i < p.horizon → slice_index values i ≤ whole_weight p
value_part p q values i e lt = rw (value_at p q values i e lt) (omega arith)

-- the line of a period, by the numbers that are carried along
pub period_line : (p : Problem) (q looks values : List ℕ) (i : ℕ) → looks ≡ q → values ≡ values_along p q → i < p.horizon →
    period_row p (i + 1) (slice_index looks i) (slice_index values i) ≡ period_of p q (1 + i)
period_line p q looks values i same e lt =
    let t : i + 1 ≡ 1 + i = omega arith in
    let before : 1 + i - 1 ≡ i = omega arith in
    rw (same, value_at p q values i e lt, t, before) refl

-- the line of a cell, by the mass that is read
pub left_line : (p : Problem) (masses : List ℕ) (later c mass : ℕ) → mass ≡ slice_index masses c → left_row p c (mass * later) ≡ left_by p masses later (0 + c)
left_line p masses later c mass e = rw (e, zero-add c) refl
