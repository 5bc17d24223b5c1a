use Rattle.std.proofs.Common.{map, drop}
use Rattle.sweep_table.proofs.OneRate.{Stands}
use Rattle.sweep_table.proofs.rates.rate_in_row.Given as goal

abbrev pub invariant-loop-entry : goal.invariant-loop-entry
invariant-loop-entry l = Stands l.denominator l.so_far (map (λ entry. entry.part) l.row) l.rate (map (λ entry. entry.part) (drop l.entry-index l.row))
