-- The worked draws.
use Rattle.std.proofs.Common.{refl}
use Rattle.std.specs.Fmt.{digits}
use Rattle.scenario_maker.specs.Generator.{next, draw_below, draws_below}
use Rattle.scenario_maker.specs.Made.{bounds, draws_of, start_of, part_cells, counts_of, spread_of, overlook_of}
use Rattle.scenario_maker.specs.Worked.{WorkedDraws}

pub worked_draws : WorkedDraws
unfolding next draw_below draws_below bounds draws_of start_of part_cells counts_of spread_of overlook_of digits
worked_draws = record {
  step = refl;
  shifted = refl;
  draws = refl;
  start = refl;
  zero = record { starts = refl; firsts = refl; spreads = refl; overlooks = refl };
  one = record { starts = refl; firsts = refl; spreads = refl; overlooks = refl };
  middle = record { starts = refl; firsts = refl; spreads = refl; overlooks = refl };
  greatest = record { starts = refl; firsts = refl; spreads = refl; overlooks = refl };
}
