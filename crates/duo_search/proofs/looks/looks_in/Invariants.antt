use Rattle.std.proofs.Common.{◌≡◌, map}
use Rattle.std.specs.List.{range_with_len}
use Rattle.duo_search.specs.Rows.{product_look}
use Rattle.duo_search.proofs.looks.looks_in.Given as goal

abbrev pub invariant-loop-both : goal.invariant-loop-both
invariant-loop-both l = map (λ row. row.items) l.rows.items ≡ map (product_look l.sc l.t) (range_with_len 0 l.both)
