-- The worked masses, computed.
use Rattle.std.proofs.Common.{refl}
use Rattle.drift_chain.specs.DriftRows.{row_of, part_in}
use Rattle.sweep_table.specs.LookParts.{look_row, factor_in, factor_of}
use Rattle.search_model.specs.Tracks.{tracks, steps_product, weight_of, miss_from}
use Rattle.search_model.specs.Bounds.{factors_along}
use Rattle.search_model.specs.Following.{after_of}
use Rattle.backward_mass.specs.Worked.{TwoCellsMasses, WaitingLongerMasses, WorkedMasses}

two_cells_masses : TwoCellsMasses
unfolding tracks steps_product weight_of miss_from row_of part_in look_row factor_in factor_of factors_along after_of
two_cells_masses = record { backward = refl; backward_last = refl; forward = refl; forward_last = refl }

waiting_longer_masses : WaitingLongerMasses
unfolding tracks steps_product weight_of miss_from row_of part_in look_row factor_in factor_of factors_along after_of
waiting_longer_masses = record { backward = refl; backward_then = refl; backward_last = refl; forward_then = refl }

pub worked_masses_hold : WorkedMasses
worked_masses_hold = record { two = two_cells_masses; longer = waiting_longer_masses }
