-- The worked values, computed.
use Rattle.std.proofs.Common.{[], ◌∷◌, refl, arith}
use Rattle.search_grid.specs.Moves.{moves_from}
use Rattle.drift_chain.specs.DriftRows.{row_of, part_in}
use Rattle.sweep_table.specs.LookParts.{look_row, factor_in, factor_of}
use Rattle.search_model.specs.Legal.{walks}
use Rattle.search_model.specs.Tracks.{tracks, steps_product, weight_of, miss_from, missed_weight}
use Rattle.search_model.specs.Worked.{one_cell, two_cells, waiting_target, waiting_longer, OneCellValues, TwoCellsValues, WaitingTargetValues, WaitingLongerValues, WorkedValues}
use Rattle.search_model.proofs.Best.{best_by_test}
use Rattle.search_model.proofs.ExampleProblems.{one_cell_sound, two_cells_sound, waiting_target_sound, waiting_longer_sound}

one_cell_values : OneCellValues
unfolding tracks steps_product weight_of miss_from missed_weight row_of part_in look_row factor_in factor_of walks moves_from
one_cell_values = record { sound = one_cell_sound; whole = refl; weights = refl; misses = (refl, refl); paths = refl; missed = refl; values = refl; best = best_by_test one_cell (0 ∷ []) (0, omega arith, refl) refl }

two_cells_values : TwoCellsValues
unfolding tracks steps_product weight_of miss_from missed_weight row_of part_in look_row factor_in factor_of walks moves_from
two_cells_values = record {
  sound = two_cells_sound;
  whole = refl;
  all_tracks = refl;
  weights = refl;
  misses = refl;
  misses_of_prefix = refl;
  paths = refl;
  missed = refl;
  values = refl;
  prefix_values = refl;
  best = best_by_test two_cells (0 ∷ 0 ∷ []) (0, omega arith, refl) refl;
}

waiting_target_values : WaitingTargetValues
unfolding tracks steps_product weight_of miss_from missed_weight row_of part_in look_row factor_in factor_of walks moves_from
waiting_target_values = record {
  sound = waiting_target_sound;
  whole = refl;
  weights = refl;
  misses = refl;
  paths = refl;
  missed = refl;
  values = refl;
  prefix_values = refl;
  best = best_by_test waiting_target (2 ∷ 2 ∷ []) (6, omega arith, refl) refl;
}

waiting_longer_values : WaitingLongerValues
unfolding tracks steps_product weight_of miss_from missed_weight row_of part_in look_row factor_in factor_of walks moves_from
waiting_longer_values = record {
  sound = waiting_longer_sound;
  whole = refl;
  weights = refl;
  misses = refl;
  paths_on = refl;
  missed = refl;
  values = refl;
  prefix_values = refl;
  path_values = refl;
  best = best_by_test waiting_longer (2 ∷ 2 ∷ 2 ∷ []) (16, omega arith, refl) refl;
}

pub worked_values : WorkedValues
worked_values = record { one = one_cell_values; two = two_cells_values; waiting = waiting_target_values; longer = waiting_longer_values }
