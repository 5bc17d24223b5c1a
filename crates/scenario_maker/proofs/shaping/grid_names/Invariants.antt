use Rattle.std.proofs.Common.{◌≡◌, map}
use Rattle.std.specs.List.{range_with_len}
use Rattle.search_model.specs.Grids.{grid_name}
use Rattle.scenario_maker.proofs.shaping.grid_names.Given as goal

abbrev pub invariant-loop-c : goal.invariant-loop-c
invariant-loop-c l = l.names.items ≡ map (grid_name 5) (range_with_len 0 l.c)
