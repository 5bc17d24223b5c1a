-- The edge bounds of the small problems, computed.
use Rattle.std.proofs.Common.{refl}
use Rattle.drift_chain.specs.DriftRows.{row_of, part_in}
use Rattle.sweep_table.specs.LookParts.{look_row, factor_in, factor_of}
use Rattle.search_grid.specs.Moves.{moves_from}
use Rattle.search_model.specs.Legal.{walks}
use Rattle.search_model.specs.Tracks.{tracks, steps_product, weight_of, miss_from, missed_weight}
use Rattle.search_model.specs.Bounds.{factors_along, reward_of, greatest}
use Rattle.search_model.specs.Edge.{edge_reward_of, sum_moves}
use Rattle.edge_bound.specs.Worked.{OneCellEdges, TwoCellsEdges, WaitingTargetEdges, WaitingLongerEdges, WorkedEdges}

one : OneCellEdges
unfolding tracks steps_product weight_of miss_from missed_weight row_of part_in look_row factor_in factor_of moves_from walks factors_along reward_of greatest edge_reward_of sum_moves
one = record { bound = refl }

two : TwoCellsEdges
unfolding tracks steps_product weight_of miss_from missed_weight row_of part_in look_row factor_in factor_of moves_from walks factors_along reward_of greatest edge_reward_of sum_moves
two = record { rewards = (refl, refl, refl); bounds = (refl, refl, refl) }

waiting : WaitingTargetEdges
unfolding tracks steps_product weight_of miss_from missed_weight row_of part_in look_row factor_in factor_of moves_from walks factors_along reward_of greatest edge_reward_of sum_moves
waiting = record { rewards = (refl, refl); bounds = (refl, refl, refl) }

longer : WaitingLongerEdges
unfolding tracks steps_product weight_of miss_from missed_weight row_of part_in look_row factor_in factor_of moves_from walks factors_along reward_of greatest edge_reward_of sum_moves
longer = record { rewards = (refl, refl, refl); bounds = (refl, refl, refl, refl, refl) }

pub worked_edges_hold : WorkedEdges
worked_edges_hold = record { one = one; two = two; waiting = waiting; longer = longer }
