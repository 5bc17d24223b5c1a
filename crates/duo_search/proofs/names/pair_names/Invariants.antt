use Rattle.std.proofs.Common.{◌≡◌, map}
use Rattle.std.specs.List.{range_with_len}
use Rattle.duo_search.specs.Product.{first_at, second_at, product_name}
use Rattle.duo_search.proofs.names.pair_names.Given as goal

abbrev pub invariant-loop-both : goal.invariant-loop-both
invariant-loop-both l = l.names.items ≡ map (λ n. product_name (first_at l.positions n) (second_at l.positions n)) (range_with_len 0 l.both)
