-- The scenario that is made from a number.
use Rattle.std.specs.Prelude.{ℕ, ◌+◌, ◌==◌, List, [], ◌∷◌, ◌++◌, map, take, drop, replicate, slice_index, count_by}
use Rattle.std.specs.List.{range_with_len}
use Rattle.search_grid.specs.Sides.{side_moves}
use Rattle.drift_chain.specs.DriftRows.{drift_over}
use Rattle.sweep_table.specs.LookParts.{parts_over}
use Rattle.search_model.specs.Problem.{Problem}
use Rattle.scenario_maker.specs.Generator.{draws_below}
use Rattle.search_model.specs.Grids.{grid_names, spread_rows}

-- the bounds of its draws in their order: of the start, of the cells of sixty parts, of the spread and of the overlook part
unfoldable pub bounds : List ℕ
bounds = 25 ∷ (replicate 60 25 ++ 3 ∷ 4 ∷ [])

-- its draws, for which the number is the first state
unfoldable pub draws_of : ℕ → List ℕ
draws_of number = draws_below bounds number

-- the cell where the searcher starts
unfoldable pub start_of : ℕ → ℕ
start_of number = slice_index (draws_of number) 0

-- the cells to which the sixty parts of the first distribution go
unfoldable pub part_cells : ℕ → List ℕ
part_cells number = take 60 (drop 1 (draws_of number))

-- the part that drifts from a cell to each side neighbour
unfoldable pub spread_of : ℕ → ℕ
spread_of number = 1 + slice_index (draws_of number) 61

-- the part of a target that a look at its cell misses
unfoldable pub overlook_of : ℕ → ℕ
overlook_of number = 1 + slice_index (draws_of number) 62

-- how often each of so many cells is among these
unfoldable pub counts_of : ℕ → List ℕ → List ℕ
counts_of cells xs = map (λ c. count_by (λ x. x == c) xs) (range_with_len 0 cells)

-- 5 rows of 5 cells, which are the positions, too, and 8 periods; chances are in parts of 60, of 12 and of 6
unfoldable pub made_problem : ℕ → Problem
made_problem number = record {
  names = grid_names 5 5;
  position_names = grid_names 5 5;
  cells = 25;
  positions = 25;
  horizon = 8;
  start = start_of number;
  total = 60;
  first = counts_of 25 (part_cells number);
  moves = side_moves 5 5;
  drift = drift_over 12 (spread_rows 12 (spread_of number) (side_moves 5 5));
  sweep = parts_over 6 (replicate 25 (overlook_of number));
}
