-- The factors of a row, and of a plain table.
use Rattle.std.proofs.Common.{ℕ, ◌≡◌, ◌≢◌, ◌==◌, ◌<◌, ◌≤◌, ◌+◌, ◌-◌, ◌*◌, ◌∙◌, if◌then◌else◌, List, [], ◌∷◌, length, map, get_or, slice_index, refl, subst, inl, inr, arith, All, sum_by}
use Rattle.std.specs.List.{range_with_len}
use Rattle.std.proofs.lemmas.Bool.{cases_lt, cases_eq, eq-eqb, ne_eqb}
use Rattle.std.proofs.lemmas.List.{get_or_past}
use Rattle.std.proofs.lemmas.List.FromFn.{length-map-range_with_len, get_or-map-range_with_len}
use Rattle.std.proofs.lemmas.List.Elements.{All-head, All-tail, All-nil, All-cons, All-weaker}
use Rattle.std.proofs.lemmas.List.Sums.{sum_by-cons}
use Rattle.list_laws.proofs.Ascending.{Ascends, Ascends-from_keys, Ascends-head, Ascends-tail}
use Rattle.list_laws.proofs.Found.{find_key-none, find_key-one}
use Rattle.list_laws.proofs.Sums.{sum_by-plus, sum_by-none, sum_by-range-pick, sum_by-range-same}
use Rattle.period_rows.specs.declared.part.CellPart.{CellPart}
use Rattle.sweep_table.specs.LookParts.{LookParts, look_row, factor_in, factor_of, cells_of, parts_over, own_row, IsLookRow, IsSweep}

-- a row without the cell misses all of it
pub factor_in-none : (g : ℕ) (row : List CellPart) (c : ℕ) → All (λ entry. entry.cell ≢ c) row → factor_in g row c ≡ g
unfolding factor_in
factor_in-none g row c none = rw (find_key-none (λ entry. entry.cell) c row none) refl

-- an ascending row misses of an entry's cell that entry's part
pub factor_in-entry : (g : ℕ) (row : List CellPart) (k : ℕ) (e : CellPart) → Ascends (λ entry. entry.cell) row → k < length row → factor_in g row (get_or row k e).cell ≡ (get_or row k e).part
unfolding factor_in
factor_in-entry g row k e up inside = rw (find_key-one (λ entry. entry.cell) row k e up inside) refl

-- the factors of a row, entry by entry
factor_in-cons : (g : ℕ) (entry : CellPart) (row : List CellPart) (c : ℕ) → factor_in g (entry ∷ row) c ≡ (if entry.cell == c then entry.part else factor_in g row c)
unfolding factor_in
factor_in-cons g entry row c = elim (cases_eq entry.cell c) [
  | inl same ↦ rw (eq-eqb entry.cell c same) refl
  | inr apart ↦ rw (ne_eqb entry.cell c apart) refl
]

-- no factor of a row exceeds what no part does
pub factor_in-le : (g : ℕ) (row : List CellPart) → All (λ entry. entry.part ≤ g) row → (c : ℕ) → factor_in g row c ≤ g
unfolding factor_in
factor_in-le g [] parts c = omega arith
factor_in-le g (entry ∷ row) parts c =
    let P : CellPart → Type 0 = λ e. e.part ≤ g in
    elim (cases_eq entry.cell c) [
      | inl same ↦ rw (eq-eqb entry.cell c same) (All-head P entry row parts)
      | inr apart ↦ rw (ne_eqb entry.cell c apart) (factor_in-le g row (All-tail P entry row parts) c)
    ]

-- what is made of the factors of all cells together is made of the parts of a row, where nothing is made of the denominator
pub made_in_row : (h : ℕ → ℕ) (g cells : ℕ) (row : List CellPart) (x : ℕ → ℕ) → h g ≡ 0 → All (λ entry. entry.cell < cells) row → Ascends (λ entry. entry.cell) row →
    sum_by (λ c. x c * h (factor_in g row c)) (range_with_len 0 cells) ≡ sum_by (λ entry. x entry.cell * h entry.part) row
made_in_row h g cells [] x nothing within up =
    sum_by-range-same cells (λ c. x c * h (factor_in g [] c)) (λ _. 0) (λ c lt. rw (factor_in-none g [] c (All-nil (λ entry. entry.cell ≢ c)), nothing) (omega arith))
    ∙ sum_by-none (range_with_len 0 cells)
made_in_row h g cells (entry ∷ row) x nothing within up =
    let made : ℕ → ℕ = λ c. if entry.cell == c then h entry.part else 0 in
    let rest : ℕ → ℕ = λ c. x c * h (factor_in g row c) in
    let above = Ascends-head (λ e. e.cell) entry row up in
    let own : factor_in g row entry.cell ≡ g = factor_in-none g row entry.cell (All-weaker (λ e. entry.cell < e.cell) (λ e. e.cell ≢ entry.cell) (λ e lt same. omega arith) row above) in
    let each : (c : ℕ) → x c * h (factor_in g (entry ∷ row) c) ≡ made c * x c + rest c = λ c. elim (cases_eq entry.cell c) [
      | inl same ↦
          let none : factor_in g row c ≡ g = subst (λ d. factor_in g row d ≡ g) same own in
          rw (factor_in-cons g entry row c, eq-eqb entry.cell c same, none, nothing) (omega arith)
      | inr apart ↦ rw (factor_in-cons g entry row c, ne_eqb entry.cell c apart) (omega arith)
    ] in
    sum_by-range-same cells (λ c. x c * h (factor_in g (entry ∷ row) c)) (λ c. made c * x c + rest c) (λ c lt. each c)
    ∙ sum_by-plus (λ c. made c * x c) rest (range_with_len 0 cells)
    ∙ omega (
      arith,
      sum_by-range-pick cells entry.cell (h entry.part) x (All-head (λ e. e.cell < cells) entry row within),
      made_in_row h g cells row x nothing (All-tail (λ e. e.cell < cells) entry row within) (Ascends-tail (λ e. e.cell) entry row up),
      sum_by-cons (λ e. x e.cell * h e.part) entry row,
    )

-- a row that covers nothing is right
pub empty_row : (g cells : ℕ) → IsLookRow g cells []
empty_row g cells = record {
  within = All-nil (λ entry. entry.cell < cells);
  ascending = λ k next. absurd (omega arith);
  parts = All-nil (λ entry. entry.part ≤ g);
}

module _ (sweep : LookParts) (sound : IsSweep sweep) where
  -- no factor exceeds the denominator
  pub factor_of-le : (t p c : ℕ) → factor_of sweep t p c ≤ sweep.denominator
  unfolding factor_of
  factor_of-le t p c = factor_in-le sweep.denominator (look_row sweep t p) (sound.each t p).parts c

  -- what is made of the factors of a look in all cells is made of the parts of the cells that it covers
  pub made_by_look : (h : ℕ → ℕ) → h sweep.denominator ≡ 0 → (t p : ℕ) (x : ℕ → ℕ) →
      sum_by (λ c. x c * h (factor_of sweep t p c)) (range_with_len 0 (cells_of sweep)) ≡ sum_by (λ entry. x entry.cell * h entry.part) (look_row sweep t p)
  unfolding factor_of
  made_by_look h nothing t p x =
      let right = sound.each t p in
      made_in_row h sweep.denominator (cells_of sweep) (look_row sweep t p) x nothing right.within (Ascends-from_keys (λ entry. entry.cell) (look_row sweep t p) right.ascending)

  -- what a look finds of a mass in each cell is what it finds in the cells that it covers
  pub found_by_look : (t p : ℕ) (x : ℕ → ℕ) →
      sum_by (λ c. x c * (sweep.denominator - factor_of sweep t p c)) (range_with_len 0 (cells_of sweep)) ≡ sum_by (λ entry. x entry.cell * (sweep.denominator - entry.part)) (look_row sweep t p)
  found_by_look t p x = made_by_look (λ part. sweep.denominator - part) (omega arith) t p x

-- a plain table has a row for each part
pub length-own_rows : (overlook : List ℕ) → length (map (own_row overlook) (range_with_len 0 (length overlook))) ≡ length overlook
length-own_rows overlook = length-map-range_with_len (own_row overlook) 0 (length overlook)

-- the row of a position of a plain table is its own cell
pub look_row-own : (g : ℕ) (overlook : List ℕ) (t p : ℕ) → p < length overlook → look_row (parts_over g overlook) t p ≡ own_row overlook p
unfolding look_row
look_row-own g overlook t p inside = get_or-map-range_with_len (own_row overlook) 0 (length overlook) p p [] inside (omega arith)

-- past the last position it is empty
look_row-past : (g : ℕ) (overlook : List ℕ) (t p : ℕ) → length overlook ≤ p → look_row (parts_over g overlook) t p ≡ []
unfolding look_row
look_row-past g overlook t p past = get_or_past (map (own_row overlook) (range_with_len 0 (length overlook))) p [] (omega (arith, length-own_rows overlook, past))

-- a look at the target's own cell misses that cell's part
pub factor_of-own : (g : ℕ) (overlook : List ℕ) (t p : ℕ) → p < length overlook → factor_of (parts_over g overlook) t p p ≡ slice_index overlook p
unfolding factor_of factor_in
factor_of-own g overlook t p inside = rw (look_row-own g overlook t p inside, eq-eqb p p refl) refl

-- and at another all
pub factor_of-apart : (g : ℕ) (overlook : List ℕ) (t p c : ℕ) → p < length overlook → p ≢ c → factor_of (parts_over g overlook) t p c ≡ g
unfolding factor_of factor_in
factor_of-apart g overlook t p c inside apart = rw (look_row-own g overlook t p inside, ne_eqb p c apart) refl

-- parts within the denominator make a sweep
pub IsSweep-from_parts : (g : ℕ) (overlook : List ℕ) → (1 ≤ g) × (g ≤ 1000000) → (1 ≤ length overlook) × (length overlook ≤ 200) →
    ((k : ℕ) → k < length overlook → slice_index overlook k ≤ g) → IsSweep (parts_over g overlook)
IsSweep-from_parts g overlook denominator count within =
    let rows = length-own_rows overlook in
    record {
      denominator = denominator;
      positions = rw rows count;
      cells = count;
      each = λ t p. elim (cases_lt p (length overlook)) [
        | inl inside ↦
            rw (look_row-own g overlook t p inside) (record {
              within = All-cons (λ entry. entry.cell < length overlook) _ [] inside (All-nil (λ entry. entry.cell < length overlook));
              ascending = λ k next. absurd (omega arith);
              parts = All-cons (λ entry. entry.part ≤ g) _ [] (within p inside) (All-nil (λ entry. entry.part ≤ g));
            })
        | inr past ↦ rw (look_row-past g overlook t p past) (empty_row g (length overlook))
      ];
    }

-- a sweep's parts are within its denominator
pub part-le : (g : ℕ) (overlook : List ℕ) → IsSweep (parts_over g overlook) → (k : ℕ) → slice_index overlook k ≤ g
part-le g overlook sweep k = elim (cases_lt k (length overlook)) [
  | inl inside ↦
      let own = factor_of-le (parts_over g overlook) sweep 1 k k in
      rw (factor_of-own g overlook 1 k inside) at own
  | inr past ↦ rw (get_or_past overlook k 0 past) (omega arith)
]
