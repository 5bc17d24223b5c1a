use Rattle.std.proofs.Common.{◌≡◌, map}
use Rattle.std.specs.List.{range_with_len}
use Rattle.search_grid.specs.Moves.{moves_from}
use Rattle.search_model.specs.Grids.{spread_row}
use Rattle.scenario_maker.proofs.shaping.spread_rows.Given as goal

abbrev pub invariant-loop-c : goal.invariant-loop-c
invariant-loop-c l = map (λ row. row.items) l.rows.items ≡ map (λ c. spread_row 12 l.part c (moves_from l.grid c)) (range_with_len 0 l.c)
