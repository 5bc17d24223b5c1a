-- What a problem's looks cover: cells, with parts of the denominator.
use Rattle.std.proofs.Common.{ℕ, ◌*◌, ◌-◌, ◌<◌, ◌≤◌, ◌≡◌, [], ◌∷◌, length, get_or, subst, sum_by, sym, ap, ◌∙◌, arith}
use Rattle.std.specs.List.{range_with_len}
use Rattle.std.proofs.lemmas.List.Elements.{All-get_or}
use Rattle.std.proofs.lemmas.List.Sums.{sum_by-cons}
use Rattle.period_rows.specs.declared.part.CellPart.{CellPart}
use Rattle.sweep_table.specs.LookParts.{LookParts, look_row, factor_of, misses, IsLookRow}
use Rattle.sweep_table.proofs.Factors.{found_by_look}
use Rattle.search_model.specs.Problem.{Problem, IsProblem}

module _ (p : Problem) (sound : IsProblem p) (t a : ℕ) where
  covered_row : IsLookRow p.sweep.denominator p.cells (look_row p.sweep t a)
  covered_row = subst (λ cells. IsLookRow p.sweep.denominator cells (look_row p.sweep t a)) sound.sweep_cells (sound.sweep.each t a)

  -- an entry of a look's row is of a cell, with a part of the denominator
  pub covered_cell : (i : ℕ) (e : CellPart) → i < length (look_row p.sweep t a) → (get_or (look_row p.sweep t a) i e).cell < p.cells
  covered_cell i e inside = All-get_or (λ entry. entry.cell < p.cells) (look_row p.sweep t a) i e inside covered_row.within

  pub covered_part : (i : ℕ) (e : CellPart) → i < length (look_row p.sweep t a) → (get_or (look_row p.sweep t a) i e).part ≤ p.sweep.denominator
  covered_part i e inside = All-get_or (λ entry. entry.part ≤ p.sweep.denominator) (look_row p.sweep t a) i e inside covered_row.parts

  -- what a look finds of a mass in each cell is what it finds in the cells that it covers
  pub found_in_cells : (x : ℕ → ℕ) →
      sum_by (λ c. x c * (p.sweep.denominator - factor_of p.sweep t a c)) (range_with_len 0 p.cells) ≡ sum_by (λ entry. x entry.cell * (p.sweep.denominator - entry.part)) (look_row p.sweep t a)
  found_in_cells x =
      let found : ℕ → ℕ = λ c. x c * (p.sweep.denominator - factor_of p.sweep t a c) in
      subst (λ cells. sum_by found (range_with_len 0 cells) ≡ sum_by (λ entry. x entry.cell * (p.sweep.denominator - entry.part)) (look_row p.sweep t a)) sound.sweep_cells
      (found_by_look p.sweep sound.sweep t a x)

  -- a sweep whose looks from the position cover the cell of its number alone
  module _ (sweep : LookParts) (same : sweep ≡ p.sweep) (part : ℕ) (own : (u : ℕ) → look_row sweep u a ≡ misses a part ∷ []) where
    own_row : look_row p.sweep t a ≡ misses a part ∷ []
    own_row = ap (λ (s : LookParts). look_row s t a) (sym same) ∙ own t

    pub own_cell : a < p.cells
    own_cell =
        let inside : 0 < length (look_row p.sweep t a) = rw own_row (omega arith) in
        rw own_row at (covered_cell 0 (misses 0 0) inside)

    pub own_part-le : part ≤ p.sweep.denominator
    own_part-le =
        let inside : 0 < length (look_row p.sweep t a) = rw own_row (omega arith) in
        rw own_row at (covered_part 0 (misses 0 0) inside)

    -- what is summed over its row is what its one cell gives
    pub sum_own : (f : CellPart → ℕ) → sum_by f (look_row p.sweep t a) ≡ f (misses a part)
    sum_own f = rw own_row (omega (arith, sum_by-cons f (misses a part) []))
