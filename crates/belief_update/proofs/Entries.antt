-- The entries of a look are of cells, with parts of the denominator.
use Rattle.std.proofs.Common.{ℕ, ◌<◌, ◌≤◌, ◌≡◌, List, length, get_or, ap, ◌∙◌}
use Rattle.period_rows.specs.declared.part.CellPart.{CellPart}
use Rattle.sweep_table.specs.LookParts.{LookParts, look_row}
use Rattle.search_model.specs.Problem.{Problem, IsProblem}
use Rattle.search_model.proofs.LookRows.{covered_cell, covered_part}

module _ (p : Problem) (sound : IsProblem p) (sweep : LookParts) (t a : ℕ) (row entries : List CellPart) (same : sweep ≡ p.sweep) (is : row ≡ look_row sweep t a) (all : entries ≡ row) where
  are_row : entries ≡ look_row p.sweep t a
  are_row = all ∙ is ∙ ap (λ (s : LookParts). look_row s t a) same

  pub entry_cell : (i : ℕ) (e : CellPart) → i < length entries → (get_or entries i e).cell < p.cells
  entry_cell i e inside = rw are_row (covered_cell p sound t a i e (rw are_row at inside))

  pub entry_part : (i : ℕ) (e : CellPart) → i < length entries → (get_or entries i e).part ≤ p.sweep.denominator
  entry_part i e inside = rw are_row (covered_part p sound t a i e (rw are_row at inside))
