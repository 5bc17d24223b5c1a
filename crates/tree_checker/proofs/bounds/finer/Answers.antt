use Rattle.std.proofs.Common.{◌≡◌, arith}
use Rattle.tangent_bound.proofs.Sizes.{finer_fits}
use Rattle.tree_checker.proofs.bounds.finer.Goals as goal

pub in_parts-requires : goal.in_parts-requires
in_parts-requires c =
    let is : c.denominator.result ≡ c.args.sc.now.sweep.denominator = cc in
    rw is (finer_fits c.args.sc.now c.args.standing.now.value c.sweep.ensures.sound (omega (arith, c.requires.exact.value)))
