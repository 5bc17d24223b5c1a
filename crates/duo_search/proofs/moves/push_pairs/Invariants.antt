use Rattle.std.proofs.Common.{◌≡◌, ◌++◌, map, take}
use Rattle.duo_search.specs.Product.{both_at}
use Rattle.duo_search.proofs.moves.push_pairs.Given as goal

abbrev pub invariant-loop-second : goal.invariant-loop-second
invariant-loop-second l = l.row.items ≡ l.fn.row.items ++ map (both_at l.positions l.first) (take l.second-index l.seconds)
