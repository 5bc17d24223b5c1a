-- What looks find of masses, in all cells that they cover.
use Rattle.std.specs.Prelude.{ℕ, ◌*◌, ◌-◌, sum_by}
use Rattle.period_rows.specs.declared.part.CellPart.{CellPart}
use Rattle.sweep_table.specs.LookParts.{look_row}
use Rattle.search_model.specs.Problem.{Problem}

-- what is found of the mass of a cell that a look covers
abbrev pub found_in : Problem → (ℕ → ℕ) → CellPart → ℕ
found_in p mass entry = mass entry.cell * (p.sweep.denominator - entry.part)

-- what a look from position a in period t finds, where each cell has some mass
abbrev pub found_of : Problem → ℕ → ℕ → (ℕ → ℕ) → ℕ
found_of p t a mass = sum_by (found_in p mass) (look_row p.sweep t a)
