-- The worked pairs, computed.
use Rattle.std.proofs.Common.{refl}
use Rattle.std.specs.Fmt.{digits}
use Rattle.drift_chain.specs.DriftRows.{row_of, part_in}
use Rattle.search_grid.specs.Moves.{moves_from}
use Rattle.sweep_table.specs.LookParts.{look_row, factor_in, factor_of}
use Rattle.search_model.specs.Tracks.{tracks, steps_product, weight_of, miss_from}
use Rattle.searcher_maps.specs.Stands.{missed_together}
use Rattle.duo_search.specs.Product.{product_moves, product_factor}
use Rattle.duo_search.specs.Pairs.{paired}
use Rattle.duo_search.specs.Worked.{WorkedPairs}

pub worked_pairs : WorkedPairs
unfolding digits row_of part_in moves_from look_row factor_in factor_of tracks steps_product weight_of miss_from missed_together product_moves product_factor paired
worked_pairs = record { one = refl; two = refl; names = refl; moves = refl; factors = refl; path = refl; says = (refl, refl) }
