-- The rows of looks of the scenario that forces a flown prefix.
use Rattle.std.specs.Prelude.{ℕ, List, map}
use Rattle.std.specs.List.{range_with_len}
use Rattle.period_rows.specs.declared.part.CellPart.{CellPart}
use Rattle.sweep_table.specs.LookParts.{look_row}
use Rattle.search_model.specs.Problem.{Problem}
use Rattle.residual_plan.specs.Forced.{source_of, forced_count}

-- the row of a position in a period: that of the position that it stands for
unfoldable pub forced_look : Problem → List ℕ → ℕ → ℕ → List CellPart
forced_look p flown t a = look_row p.sweep t (source_of p flown a)

-- the rows of all positions in a period
unfoldable pub forced_looks_in : Problem → List ℕ → ℕ → List (List CellPart)
forced_looks_in p flown t = map (forced_look p flown t) (range_with_len 0 (forced_count p flown))

-- in all periods
unfoldable pub forced_looks : Problem → List ℕ → List (List (List CellPart))
forced_looks p flown = map (forced_looks_in p flown) (range_with_len 1 p.horizon)
