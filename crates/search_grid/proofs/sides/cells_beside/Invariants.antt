use Rattle.std.proofs.Common.{◌≡◌}
use Rattle.std.specs.List.{filter, range_with_len}
use Rattle.search_grid.specs.Sides.{is_beside}
use Rattle.search_grid.proofs.sides.cells_beside.Given as goal

abbrev pub invariant-loop-d : goal.invariant-loop-d
invariant-loop-d l = l.row.items ≡ filter (is_beside l.columns l.c) (range_with_len 0 l.d)
