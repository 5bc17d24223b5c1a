use Rattle.std.proofs.Common.{◌≡◌, map}
use Rattle.std.specs.List.{range_with_len}
use Rattle.search_grid.specs.Sides.{moves_beside}
use Rattle.search_grid.proofs.sides.all_beside.Given as goal

abbrev pub invariant-loop-c : goal.invariant-loop-c
invariant-loop-c l = map (λ row. row.items) l.lists.items ≡ map (moves_beside l.rows l.columns) (range_with_len 0 l.c)
