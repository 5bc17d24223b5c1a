use Rattle.std.proofs.Common.{◌≡◌, map}
use Rattle.std.specs.List.{range_with_len}
use Rattle.drift_chain.specs.DriftRows.{row_of}
use Rattle.searcher_maps.proofs.drifting.first_rows.Given as goal

abbrev pub invariant-loop-c : goal.invariant-loop-c
invariant-loop-c l = map (λ row. row.items) l.rows.items ≡ map (row_of l.drift 1) (range_with_len 0 l.c)
