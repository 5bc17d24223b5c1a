use Rattle.std.proofs.Common.{◌∙◌, refl, arith}
use Rattle.duo_search.specs.Product.{product_name, first_at, second_at}
use Rattle.duo_search.proofs.Counted.{counted}
use Rattle.duo_search.proofs.names.pair_names.Goals as goal

pub loop-both-preserved : goal.loop-both-preserved
loop-both-preserved c =
    c.in_ok-push.ensures.items
    ∙ counted (λ n. product_name (first_at c.args.positions n) (second_at c.args.positions n)) 0 c.loop-both.both _ c.loop-both.both c.loop-both.names.items c.in_ok-pair_name.field-0 (omega arith) refl c.loop-both.invariant c.in_ok-pair_name.ensures
