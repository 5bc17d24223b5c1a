use Rattle.std.proofs.Common.{◌≡◌, ◌*◌}
use Rattle.std.specs.List.{range_with_len}
use Rattle.duo_search.specs.Product.{product_factor}
use Rattle.duo_search.proofs.PairLooks.{entries_of}
use Rattle.duo_search.proofs.looks.joint_look.Given as goal

abbrev pub invariant-loop-cell : goal.invariant-loop-cell
invariant-loop-cell l = l.row.items ≡ entries_of (product_factor l.sc l.t l.both) (l.sc.sweep.denominator * l.sc.sweep.denominator) (range_with_len 0 l.cell)
