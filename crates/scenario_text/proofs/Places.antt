-- Entries of different cells, written one after the other where their cells are.
use Rattle.std.proofs.Common.{◌≡◌, ℕ, zero, suc, ◌<◌, ◌+◌, cond, List, [], ◌∷◌, length, get_or, set, take, replicate, refl, sym, ◌∙◌, arith, subst, inl, inr, get_or-set_same, get_or-set_other}
use Rattle.std.specs.Prelude.{◌==◌, if◌then◌else◌, count_by, sum_by, sum, slice_index}
use Rattle.std.proofs.lemmas.Bool.{eq-eqb, ne_eqb, cases_eq}
use Rattle.std.proofs.lemmas.List.{length-set, length-replicate, get_or-replicate}
use Rattle.std.proofs.lemmas.List.Sums.{sum_by-cons, sum_by_more, sum_by-take-le, sum_by-set}
use Rattle.period_rows.specs.declared.part.CellPart.{CellPart}
use Rattle.drift_chain.specs.DriftRows.{part_in}
use Rattle.scenario_text.specs.Sound.{AreEntries}

-- where no entry is of a cell, its part is 0
unmet : (c : ℕ) (row : List CellPart) → count_by (λ e. e.cell == c) row ≡ 0 → sum_by (λ e. if e.cell == c then e.part else 0) row ≡ 0
unmet c [] none = refl
unmet c (e ∷ row) none =
    let counts = sum_by-cons (λ (e : CellPart). cond (e.cell == c) 1 0) e row in
    let step = sum_by-cons (λ (e : CellPart). if e.cell == c then e.part else 0) e row in
    elim (cases_eq e.cell c) [
      | inl same ↦
          let one : count_by (λ e. e.cell == c) (e ∷ row) ≡ 1 + count_by (λ e. e.cell == c) row = counts ∙ rw (eq-eqb e.cell c same) refl in
          absurd (omega (arith, one, none))
      | inr apart ↦
          let less : count_by (λ e. e.cell == c) (e ∷ row) ≡ 0 + count_by (λ e. e.cell == c) row = counts ∙ rw (ne_eqb e.cell c apart) refl in
          step ∙ rw (ne_eqb e.cell c apart) (omega (arith, unmet c row (omega (arith, less, none))))
    ]

-- the parts of the first i entries stand at their cells, and 0 elsewhere
pub record Placed (cells : ℕ) (entries : List CellPart) (i : ℕ) (parts : List ℕ) : Type 0 where
  pub cells_are : length parts ≡ cells
  pub each : (c : ℕ) → c < cells → slice_index parts c ≡ part_in (take i entries) c
  pub total_is : sum parts ≡ sum_by (λ e. e.part) (take i entries)

sum-zeros : (n : ℕ) → sum (replicate n 0) ≡ 0
sum-zeros zero = refl
sum-zeros (suc n) = sum_by-cons (λ x. x) 0 (replicate n 0) ∙ omega (arith, sum-zeros n)

pub Placed-none : (cells : ℕ) (entries : List CellPart) → Placed cells entries 0 (replicate cells 0)
unfolding part_in
Placed-none cells entries = record {
  cells_are = length-replicate cells 0;
  each = λ c lt. get_or-replicate cells c 0 0 lt;
  total_is = sum-zeros cells;
}

-- one entry more: no earlier one is of its cell
module _ (cells total : ℕ) (entries : List CellPart) (h : AreEntries cells total entries) (i : ℕ) (d : CellPart) (lt : i < length entries) where
  abbrev entry : CellPart
  entry = get_or entries i d

  pub cell_within : entry.cell < cells
  cell_within = h.within i d lt

  first_of_cell : count_by (λ e. e.cell == entry.cell) (take i entries) ≡ 0
  first_of_cell =
      let more = sum_by_more (λ (e : CellPart). cond (e.cell == entry.cell) 1 0) entries i d lt in
      let one : count_by (λ e. e.cell == entry.cell) (take (i + 1) entries) ≡ count_by (λ e. e.cell == entry.cell) (take i entries) + 1 = more ∙ rw (eq-eqb entry.cell entry.cell refl) refl in
      let all = sum_by-take-le (λ (e : CellPart). cond (e.cell == entry.cell) 1 0) entries (i + 1) in
      omega (arith, one, all, h.once entry.cell)

  pub Placed-more : (parts : List ℕ) → Placed cells entries i parts → Placed cells entries (i + 1) (set parts entry.cell entry.part)
  unfolding part_in
  Placed-more parts so_far =
      let within : entry.cell < length parts = omega (arith, cell_within, so_far.cells_are) in
      let nothing = unmet entry.cell (take i entries) first_of_cell in
      let was : slice_index parts entry.cell ≡ 0 = so_far.each entry.cell cell_within ∙ nothing in
      record {
        cells_are = length-set parts entry.cell entry.part ∙ so_far.cells_are;
        each = λ c below.
            let more = sum_by_more (λ (e : CellPart). if e.cell == c then e.part else 0) entries i d lt in
            elim (cases_eq entry.cell c) [
              | inl same ↦
                  let here : slice_index (set parts entry.cell entry.part) entry.cell ≡ entry.part = get_or-set_same parts entry.cell entry.part 0 within in
                  let P : ℕ → Type 0 = λ k. sum_by (λ e. if e.cell == k then e.part else 0) (take i entries) ≡ 0 in
                  let none : sum_by (λ e. if e.cell == c then e.part else 0) (take i entries) ≡ 0 = subst P same nothing in
                  let there : sum_by (λ e. if e.cell == c then e.part else 0) (take (i + 1) entries) ≡ sum_by (λ e. if e.cell == c then e.part else 0) (take i entries) + entry.part = more ∙ rw (eq-eqb entry.cell c same) refl in
                  let Q : ℕ → Type 0 = λ k. slice_index (set parts entry.cell entry.part) k ≡ entry.part in
                  subst Q same here ∙ sym (there ∙ rw none (omega arith))
              | inr apart ↦
                  let other : slice_index (set parts entry.cell entry.part) c ≡ slice_index parts c = get_or-set_other parts entry.cell c entry.part 0 (λ e. apart (sym e)) in
                  let there : sum_by (λ e. if e.cell == c then e.part else 0) (take (i + 1) entries) ≡ sum_by (λ e. if e.cell == c then e.part else 0) (take i entries) + 0 = more ∙ rw (ne_eqb entry.cell c apart) refl in
                  other ∙ so_far.each c below ∙ sym (there ∙ omega arith)
            ];
        total_is =
            let written = sum_by-set (λ x. x) parts entry.cell entry.part 0 within in
            let more = sum_by_more (λ (e : CellPart). e.part) entries i d lt in
            omega (arith, written, more, was, so_far.total_is);
      }
