use Rattle.std.proofs.Common.{◌≡◌, map}
use Rattle.std.specs.List.{range_with_len}
use Rattle.duo_search.specs.Product.{product_moves}
use Rattle.duo_search.proofs.moves.rows_of_moves.Given as goal

abbrev pub invariant-loop-both : goal.invariant-loop-both
invariant-loop-both l = map (λ row. row.items) l.rows.items ≡ map (product_moves l.sc) (range_with_len 0 l.both)
