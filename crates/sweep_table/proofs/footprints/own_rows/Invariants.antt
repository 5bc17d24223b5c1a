use Rattle.std.proofs.Common.{◌≡◌, map}
use Rattle.std.specs.List.{range_with_len}
use Rattle.sweep_table.specs.LookParts.{own_row}
use Rattle.sweep_table.proofs.footprints.own_rows.Given as goal

abbrev pub invariant-loop-cell : goal.invariant-loop-cell
invariant-loop-cell l = map (λ row. row.items) l.rows.items ≡ map (own_row l.overlook) (range_with_len 0 l.cell)
