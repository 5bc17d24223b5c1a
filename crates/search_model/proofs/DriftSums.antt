-- What drift rows and first parts sum to.
use Rattle.std.proofs.Common.{ℕ, ◌+◌, ◌*◌, ◌<◌, ◌≡◌, ◌==◌, if◌then◌else◌, List, [], ◌∷◌, map, refl, sym, ap, ◌∙◌, arith, sum, sum_by, All}
use Rattle.std.specs.List.{range_with_len, AllByRecursion}
use Rattle.std.proofs.lemmas.List.Sums.{sum_by-cons, sum-map}
use Rattle.std.proofs.lemmas.List.FromFn.{fill_by_all}
use Rattle.std.proofs.lemmas.List.Elements.{recursion_from_All}
use Rattle.period_rows.specs.declared.part.CellPart.{CellPart}
use Rattle.drift_chain.specs.DriftRows.{DriftRows, drift_cells, row_of, part_in, part_of, IsDrift}
use Rattle.search_model.specs.Problem.{Problem, first_of, IsProblem}
use Rattle.list_laws.proofs.Sums.{sum_by-same, sum_by-none, sum_by-plus, sum_by-range-pick}

by_cells : (n : ℕ) (f : ℕ → ℕ) (row : List CellPart) → AllByRecursion (λ entry. entry.cell < n) row →
    sum_by (λ d. part_in row d * f d) (range_with_len 0 n) ≡ sum_by (λ entry. entry.part * f entry.cell) row
unfolding part_in
by_cells n f [] h = sum_by-same _ (λ _. 0) (range_with_len 0 n) (λ d. omega arith) ∙ sum_by-none (range_with_len 0 n)
by_cells n f (entry ∷ row) h =
    sum_by-same _ (λ d. (if entry.cell == d then entry.part else 0) * f d + part_in row d * f d) (range_with_len 0 n) (λ d. rw (sum_by-cons (λ e. if e.cell == d then e.part else 0) entry row) (omega arith))
    ∙ sum_by-plus (λ d. (if entry.cell == d then entry.part else 0) * f d) (λ d. part_in row d * f d) (range_with_len 0 n)
    ∙ rw (sum_by-range-pick n entry.cell entry.part f h.0, by_cells n f row h.1) (sym (sum_by-cons (λ e. e.part * f e.cell) entry row))

-- a sum over cells of a row's parts times numbers is the sum over its entries
pub row_by_cells : (n : ℕ) (f : ℕ → ℕ) (row : List CellPart) → All (λ entry. entry.cell < n) row →
    sum_by (λ d. part_in row d * f d) (range_with_len 0 n) ≡ sum_by (λ entry. entry.part * f entry.cell) row
row_by_cells n f row within = by_cells n f row (recursion_from_All _ row within)

-- the parts of a step sum to the denominator
pub part_of-total : (drift : DriftRows) → IsDrift drift → (t c : ℕ) → c < drift_cells drift → sum_by (part_of drift t c) (range_with_len 0 (drift_cells drift)) ≡ drift.denominator
part_of-total drift sound t c here =
    let row = row_of drift t c in
    sum_by-same _ (λ d. part_in row d * 1) (range_with_len 0 (drift_cells drift)) (λ d. omega arith)
    ∙ row_by_cells (drift_cells drift) (λ _. 1) row (sound.each t c here).within
    ∙ sum_by-same _ (λ entry. entry.part) row (λ entry. omega arith)
    ∙ (sound.each t c here).total

-- the parts of a step, in a problem
pub steps_total : (p : Problem) → IsProblem p → (t c : ℕ) → c < p.cells → sum_by (part_of p.drift t c) (range_with_len 0 p.cells) ≡ p.drift.denominator
steps_total p sound t c here =
    let all : p.cells ≡ drift_cells p.drift = sym sound.drift_cells in
    rw all (part_of-total p.drift sound.drift t c (omega (arith, here, all)))

-- the first parts sum to the total
pub first_total : (p : Problem) → IsProblem p → sum_by (first_of p) (range_with_len 0 p.cells) ≡ p.total
first_total p sound =
    let same : p.first ≡ map (first_of p) (range_with_len 0 p.cells) = fill_by_all (first_of p) p.first p.cells 0 sound.first_length (λ k lt. refl) in
    sym (sum-map (first_of p) (range_with_len 0 p.cells)) ∙ sym (ap (λ (xs : List ℕ). sum xs) same) ∙ sound.first_total
