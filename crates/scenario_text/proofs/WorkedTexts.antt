-- The worked texts say what is said of them.
use Rattle.std.proofs.Common.{refl}
use Rattle.scenario_text.specs.Worked.{WorkedTexts}
use Rattle.scenario_text.specs.WorkedTwo.{WorkedTwo}
use Rattle.text_rows.specs.Fields.{fields_of}
use Rattle.text_rows.specs.LineMachine.{read_from}
use Rattle.exact_parts.specs.Decimal.{is_plain, number_at}
use Rattle.std.specs.Fmt.{digits}
use Rattle.search_model.specs.Grids.{spread_row}
use Rattle.search_grid.specs.Moves.{moves_from}
use Rattle.search_grid.specs.Sides.{side_moves}
use Rattle.scenario_text.specs.Fields.{entries_in}
use Rattle.scenario_text.specs.KindTable.{pair_names, pair_parts, stands_twice}
use Rattle.scenario_text.specs.Reading.{line_at}

pub worked_texts : WorkedTexts
unfolding fields_of is_plain number_at digits moves_from side_moves spread_row entries_in pair_names pair_parts stands_twice line_at read_from
worked_texts = record {
  rows = refl;
  grid = refl;
  not_text = refl;
  bad_line = refl;
  out_of_place = refl;
  grid_alone = refl;
  bad_number = refl;
  over_limit = refl;
  unknown = refl;
  double_name = refl;
  missing_row = refl;
  double_row = refl;
  wrong_sum = refl;
  part_over = refl;
  no_move = refl;
  too_wide = refl;
  early_end = refl;
  number_first = refl;
}

pub worked_two : WorkedTwo
unfolding fields_of is_plain number_at digits moves_from side_moves spread_row entries_in pair_names pair_parts stands_twice line_at read_from
worked_two = record {
  positions = refl;
  periods = refl;
  base = refl;
  keyword = refl;
  position_first = refl;
  grid = refl;
  start_first = refl;
  no_name = refl;
  ill_name = refl;
  long_name = refl;
  double_position = refl;
  cell_late = refl;
  start_at_cell = refl;
  first_at_position = refl;
  overlook = refl;
  spread = refl;
  rate = refl;
  moves_of_cell = refl;
  moves_to_cell = refl;
  moves_twice = refl;
  no_move = refl;
  drift_of_position = refl;
  lacks_drift = refl;
  lacks_look = refl;
  look_no_position = refl;
  look_no_part = refl;
  look_bad_part = refl;
  look_large_part = refl;
  look_of_cell = refl;
  look_at_position = refl;
  look_twice = refl;
  look_over = refl;
  look_again = refl;
  lookin_alone = refl;
  lookin_no_part = refl;
  lookin_period_0 = refl;
  lookin_period_3 = refl;
  lookin_of_cell = refl;
  lookin_twice = refl;
  lookin_over = refl;
  lookin_again = refl;
  driftin_pair = refl;
  driftin_none = refl;
  driftin_period_0 = refl;
  driftin_part_0 = refl;
  driftin_period_2 = refl;
  driftin_of_position = refl;
  driftin_twice = refl;
  driftin_sum = refl;
  driftin_again = refl;
  driftin_horizon_1 = refl;
  driftin_horizon_0 = refl;
  position_of_one = refl;
  driftin_of_one = refl;
  look_of_one = refl;
  lookin_of_one = refl;
}
