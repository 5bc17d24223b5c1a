use Rattle.std.proofs.Common.{◌≡◌, ◌-◌, map}
use Rattle.std.specs.List.{range_with_len}
use Rattle.searcher_maps.specs.Periods.{rows_by_period}
use Rattle.duo_search.specs.Rows.{product_looks}
use Rattle.duo_search.proofs.looks.looks_in_all.Given as goal

abbrev pub invariant-loop-t : goal.invariant-loop-t
invariant-loop-t l = rows_by_period l.periods.items ≡ map (product_looks l.sc) (range_with_len 1 (l.t - 1))
