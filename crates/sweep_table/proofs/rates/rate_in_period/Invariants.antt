use Rattle.std.proofs.Common.{◌-◌}
use Rattle.std.specs.List.{flat_map, range_with_len}
use Rattle.sweep_table.specs.LookParts.{positions_of}
use Rattle.sweep_table.specs.Rates.{parts_at, parts_in_period}
use Rattle.sweep_table.proofs.OneRate.{Stands}
use Rattle.sweep_table.proofs.rates.rate_in_period.Given as goal

abbrev pub invariant-loop-p : goal.invariant-loop-p
invariant-loop-p l =
    Stands l.sweep.denominator l.so_far (parts_in_period l.sweep l.t) l.rate (flat_map (parts_at l.sweep l.t) (range_with_len l.p (positions_of l.sweep - l.p)))
