use Rattle.std.proofs.Common.{◌-◌, ◌+◌}
use Rattle.std.specs.List.{flat_map, range_with_len}
use Rattle.sweep_table.specs.Rates.{parts_in_period, parts_up_to}
use Rattle.sweep_table.proofs.OneRate.{Stands}
use Rattle.sweep_table.proofs.rates.rate_up_to.Given as goal

abbrev pub invariant-loop-t : goal.invariant-loop-t
invariant-loop-t l =
    Stands l.sweep.denominator l.sweep.denominator (parts_up_to l.sweep l.last) l.rate (flat_map (parts_in_period l.sweep) (range_with_len l.t (l.last + 1 - l.t)))
