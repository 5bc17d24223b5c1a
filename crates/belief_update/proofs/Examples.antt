-- The masses of the small problems, by computing.
use Rattle.std.proofs.Common.{refl}
use Rattle.drift_chain.specs.DriftRows.{row_of, part_in}
use Rattle.sweep_table.specs.LookParts.{look_row, factor_in, factor_of}
use Rattle.search_model.specs.Tracks.{tracks, steps_product, weight_of}
use Rattle.belief_update.specs.Masses.{looked_along, mass_of}
use Rattle.belief_update.specs.Worked.{TwoCellsMasses, WaitingLongerMasses, WorkedMasses}

two_cells_masses : TwoCellsMasses
unfolding row_of part_in look_row factor_in factor_of tracks steps_product weight_of looked_along mass_of
two_cells_masses = record { start = refl; looked = refl; drifted = refl; looked_again = refl; undetected = refl; unlooked = refl }

waiting_longer_masses : WaitingLongerMasses
unfolding row_of part_in look_row factor_in factor_of tracks steps_product weight_of looked_along mass_of
waiting_longer_masses = record { looked = refl; later = refl }

pub worked_masses_hold : WorkedMasses
worked_masses_hold = record { two = two_cells_masses; longer = waiting_longer_masses }
