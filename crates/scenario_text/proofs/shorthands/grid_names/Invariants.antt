use Rattle.std.proofs.Common.{◌≡◌, map}
use Rattle.std.specs.List.{range_with_len}
use Rattle.search_model.specs.Grids.{grid_name}
use Rattle.scenario_text.proofs.shorthands.grid_names.Given as goal

abbrev pub invariant-loop-c : goal.invariant-loop-c
invariant-loop-c l = map (λ n. n.items) l.names.keys ≡ map (grid_name l.cols) (range_with_len 0 l.c)
