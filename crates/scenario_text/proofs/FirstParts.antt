-- The positive first parts, as entries, are a row in order.
use Rattle.std.proofs.Common.{◌≡◌, ℕ, zero, suc, ◌+◌, ◌<◌, ◌≤◌, cond, eqb, List, [], ◌∷◌, ◌++◌, length, refl, sym, ap, ◌∙◌, arith, zero-add, inl, inr}
use Rattle.std.specs.Prelude.{All, ◌==◌, if◌then◌else◌, sum, sum_by, slice_index}
use Rattle.std.specs.List.{flat_map, range_with_len}
use Rattle.std.proofs.lemmas.Bool.{cases_eq, eq-eqb, ne_eqb}
use Rattle.std.proofs.lemmas.List.Elements.{All-nil, All-cons, All-weaker}
use Rattle.std.proofs.lemmas.List.FromFn.{fill_by_all}
use Rattle.std.proofs.lemmas.List.Sums.{sum_by-cons, sum-map}
use Rattle.period_rows.specs.declared.part.CellPart.{CellPart}
use Rattle.drift_chain.specs.DriftRows.{IsDriftRow, part_in}
use Rattle.search_model.specs.Problem.{Problem, IsProblem, first_of}
use Rattle.scenario_text.specs.Canonical.{first_entries}
use Rattle.list_laws.proofs.Ascending.{Ascends}
use Rattle.list_laws.proofs.Pairs.{AllPairs-nil, AllPairs-cons}
use Rattle.list_laws.proofs.Rising.{increasing_from_ascends}

-- the entry of a number with a positive part
abbrev entry_at : (ℕ → ℕ) → ℕ → List CellPart
entry_at f c = if f c == 0 then [] else record { cell = c; part = f c } ∷ []

-- entries from a up to b, with this sum
record Enters (a b total : ℕ) (es : List CellPart) : Type 0 where
  from : All (λ e. a ≤ e.cell) es
  upto : All (λ e. e.cell < b) es
  positive : All (λ e. 1 ≤ e.part) es
  rises : Ascends (λ e. e.cell) es
  total_is : sum_by (λ e. e.part) es ≡ total

none_entered : (a b : ℕ) → Enters a b 0 []
none_entered a b = record {
  from = All-nil (λ e. a ≤ e.cell);
  upto = All-nil (λ e. e.cell < b);
  positive = All-nil (λ e. 1 ≤ e.part);
  rises = AllPairs-nil (λ d e. d.cell < e.cell);
  total_is = refl;
}

one_more : (a b total part : ℕ) (es : List CellPart) → a < b → 1 ≤ part → Enters (a + 1) b total es → Enters a b (part + total) (record { cell = a; part = part } ∷ es)
one_more a b total part es lt some h = record {
  from = All-cons (λ e. a ≤ e.cell) (record { cell = a; part = part }) es (omega arith) (All-weaker (λ e. a + 1 ≤ e.cell) (λ e. a ≤ e.cell) (λ e le. omega arith) es h.from);
  upto = All-cons (λ e. e.cell < b) (record { cell = a; part = part }) es lt h.upto;
  positive = All-cons (λ e. 1 ≤ e.part) (record { cell = a; part = part }) es some h.positive;
  rises = AllPairs-cons (λ d e. d.cell < e.cell) (record { cell = a; part = part }) es (All-weaker (λ e. a + 1 ≤ e.cell) (λ e. a < e.cell) (λ e le. omega arith) es h.from) h.rises;
  total_is = sum_by-cons (λ e. e.part) (record { cell = a; part = part }) es ∙ ap (λ (n : ℕ). part + n) h.total_is;
}

one_later : (a b total : ℕ) (es : List CellPart) → Enters (a + 1) b total es → Enters a b total es
one_later a b total es h = record {
  from = All-weaker (λ e. a + 1 ≤ e.cell) (λ e. a ≤ e.cell) (λ e le. omega arith) es h.from;
  upto = h.upto;
  positive = h.positive;
  rises = h.rises;
  total_is = h.total_is;
}

entered : (n a b : ℕ) (f : ℕ → ℕ) → a + n ≡ b → Enters a b (sum_by f (range_with_len a n)) (flat_map (entry_at f) (range_with_len a n))
entered zero a b f e = none_entered a b
entered (suc n) a b f e =
    let rest = entered n (a + 1) b f (omega arith) in
    let total : sum_by f (range_with_len a (suc n)) ≡ f a + sum_by f (range_with_len (a + 1) n) = sum_by-cons f a (range_with_len (a + 1) n) in
    elim (cases_eq (f a) 0) [
      | inl nothing ↦ rw (total, eq-eqb (f a) 0 nothing) (let same : f a + sum_by f (range_with_len (a + 1) n) ≡ sum_by f (range_with_len (a + 1) n) = omega arith in rw same (one_later a b _ _ rest))
      | inr some ↦ rw (total, ne_eqb (f a) 0 some) (one_more a b _ (f a) _ (omega arith) (omega arith) rest)
    ]

sum-by_place : (xs : List ℕ) → sum_by (slice_index xs) (range_with_len 0 (length xs)) ≡ sum xs
sum-by_place xs = sym (sum-map (slice_index xs) (range_with_len 0 (length xs))) ∙ ap sum (sym (fill_by_all (slice_index xs) xs (length xs) 0 refl (λ k lt. refl)))

-- the first entries of a problem, whose parts sum to the total
pub IsDriftRow-first : (p : Problem) → IsProblem p → IsDriftRow p.total p.cells (first_entries p)
IsDriftRow-first p h =
    let row = entered p.cells 0 p.cells (first_of p) (omega arith) in
    let total : sum_by (first_of p) (range_with_len 0 p.cells) ≡ p.total = ap (λ (n : ℕ). sum_by (first_of p) (range_with_len 0 n)) (sym h.first_length) ∙ sum-by_place p.first ∙ h.first_total in
    record {
      within = row.upto;
      positive = row.positive;
      ascending = increasing_from_ascends (λ e. e.cell) _ row.rises;
      total = row.total_is ∙ total;
    }

-- Such entries give each number its part.

none_at : (a d v : ℕ) → v ≡ 0 → cond (eqb a d) v 0 ≡ 0
none_at a d v none = elim (cases_eq a d) [ inl same ↦ rw (eq-eqb a d same) none | inr other ↦ rw (ne_eqb a d other) refl ]

part_more : (f : ℕ → ℕ) (a d : ℕ) (es : List CellPart) → part_in (entry_at f a ++ es) d ≡ cond (eqb a d) (f a) 0 + part_in es d
unfolding part_in
part_more f a d es =
    let more : sum_by (λ e. if e.cell == d then e.part else 0) (record { cell = a; part = f a } ∷ es) ≡ cond (eqb a d) (f a) 0 + part_in es d = sum_by-cons (λ e. if e.cell == d then e.part else 0) (record { cell = a; part = f a }) es in
    elim (cases_eq (f a) 0) [
      | inl nothing ↦ rw (eq-eqb (f a) 0 nothing, none_at a d (f a) nothing) (sym (zero-add (part_in es d)))
      | inr some ↦ rw (ne_eqb (f a) 0 some) more
    ]

part_before : (n a d : ℕ) (f : ℕ → ℕ) → d < a → part_in (flat_map (entry_at f) (range_with_len a n)) d ≡ 0
unfolding part_in
part_before zero a d f lt = refl
part_before (suc n) a d f lt = part_more f a d (flat_map (entry_at f) (range_with_len (a + 1) n)) ∙ rw (ne_eqb a d (λ e. omega arith), part_before n (a + 1) d f (omega arith)) refl

part_entered : (n a d : ℕ) (f : ℕ → ℕ) → a ≤ d → d < a + n → part_in (flat_map (entry_at f) (range_with_len a n)) d ≡ f d
part_entered zero a d f low high = absurd (omega arith)
part_entered (suc n) a d f low high =
    elim (cases_eq a d) [
      | inl same ↦
          let after : part_in (flat_map (entry_at f) (range_with_len (a + 1) n)) d ≡ 0 = part_before n (a + 1) d f (omega arith) in
          part_more f a d (flat_map (entry_at f) (range_with_len (a + 1) n)) ∙ rw (eq-eqb a d same, after, same) (omega arith)
      | inr other ↦ part_more f a d (flat_map (entry_at f) (range_with_len (a + 1) n)) ∙ rw (ne_eqb a d other, part_entered n (a + 1) d f (omega arith) (omega arith)) (zero-add (f d))
    ]

-- the first parts of a problem are those of its first entries
pub part_in-first : (p : Problem) (c : ℕ) → c < p.cells → first_of p c ≡ part_in (first_entries p) c
part_in-first p c lt = sym (part_entered p.cells 0 c (first_of p) (omega arith) (omega arith))
