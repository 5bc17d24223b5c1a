-- The bounds of the small problems, computed.
use Rattle.std.proofs.Common.{refl}
use Rattle.drift_chain.specs.DriftRows.{row_of, part_in}
use Rattle.sweep_table.specs.LookParts.{look_row, factor_in, factor_of}
use Rattle.search_grid.specs.Moves.{moves_from}
use Rattle.search_model.specs.Legal.{walks}
use Rattle.search_model.specs.Tracks.{tracks, steps_product, weight_of, miss_from, missed_weight}
use Rattle.search_model.specs.Bounds.{factors_along, reward_of, sum_along, greatest, gain_of}
use Rattle.search_model.specs.Exchange.{unit_reward, reward_for, lead_of}
use Rattle.search_model.specs.Memory.{factors_before, reward_after, sum_remembering}
use Rattle.search_model.specs.WorkedBounds.{TwoCellsBounds, WaitingTargetBounds, WaitingLongerBounds, WaitingLongerExchanges, WaitingLongerMemories, WorkedBounds}

two : TwoCellsBounds
unfolding tracks steps_product weight_of miss_from missed_weight row_of part_in look_row factor_in factor_of moves_from walks factors_along reward_of sum_along greatest gain_of
two = record { rewards = (refl, refl, refl, refl); means = (refl, refl); tangent = refl }

waiting : WaitingTargetBounds
unfolding tracks steps_product weight_of miss_from missed_weight row_of part_in look_row factor_in factor_of moves_from walks factors_along reward_of sum_along greatest gain_of
waiting = record { reward = refl; means = (refl, refl) }

longer : WaitingLongerBounds
unfolding tracks steps_product weight_of miss_from missed_weight row_of part_in look_row factor_in factor_of moves_from walks factors_along reward_of sum_along greatest gain_of
longer = record { rewards = (refl, refl, refl, refl); means = (refl, refl, refl, refl, refl); tangents = (refl, refl, refl) }

exchanges : WaitingLongerExchanges
unfolding tracks steps_product weight_of miss_from missed_weight row_of part_in look_row factor_in factor_of moves_from walks factors_along sum_along greatest unit_reward reward_for lead_of
exchanges = record { masses = (refl, refl); leads = (refl, refl); exchanges = (refl, refl) }

memories : WaitingLongerMemories
unfolding tracks steps_product weight_of miss_from missed_weight row_of part_in look_row factor_in factor_of moves_from walks factors_along greatest factors_before reward_after sum_remembering
memories = record { rewards = (refl, refl, refl); bounds = (refl, refl, refl) }

pub worked_bounds_hold : WorkedBounds
worked_bounds_hold = record { two = two; waiting = waiting; longer = longer; exchanges = exchanges; memories = memories }
