use Rattle.std.proofs.Common.{◌≡◌, take}
use Rattle.search_grid.specs.Moves.{moves_from}
use Rattle.duo_search.specs.Product.{first_at, second_at, all_pairs}
use Rattle.duo_search.proofs.moves.moves_of_both.Given as goal

abbrev pub invariant-loop-first : goal.invariant-loop-first
invariant-loop-first l =
    l.row.items ≡ all_pairs l.sc.positions (take l.first-index (moves_from l.sc.moves (first_at l.sc.positions l.both))) (moves_from l.sc.moves (second_at l.sc.positions l.both))
