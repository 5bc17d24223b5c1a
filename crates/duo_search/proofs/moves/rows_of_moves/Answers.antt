use Rattle.std.proofs.Common.{ℕ, List, Vec, Global, refl, arith}
use Rattle.duo_search.specs.Product.{product_moves}
use Rattle.duo_search.proofs.Counted.{counted_behind}
use Rattle.duo_search.proofs.moves.rows_of_moves.Goals as goal

pub loop-both-preserved : goal.loop-both-preserved
loop-both-preserved c =
    let parts : Vec ℕ Global → List ℕ = λ row. row.items in
    counted_behind parts (product_moves c.args.sc.now) 0 c.loop-both.both _ c.loop-both.both c.loop-both.rows.items _ c.in_ok-moves_of_both.field-0 (omega arith) refl c.in_ok-push.ensures.items c.loop-both.invariant c.in_ok-moves_of_both.ensures
