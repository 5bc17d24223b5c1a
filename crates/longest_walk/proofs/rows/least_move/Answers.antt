use Rattle.std.proofs.Common.{◌≡◌, ◌+◌, length, slice_index, arith, subst}
use Rattle.std.specs.List.{IsFirstMaxByKey}
use Rattle.longest_walk.proofs.RowSteps.{first_is_least}
use Rattle.longest_walk.proofs.rows.least_move.Goals as goal

pub returns : goal.returns
returns c =
    let all : c.loop-i.i ≡ length c.args.moves.now = omega (arith, c.requires.some, c.loop-i.auto.i-end) in
    first_is_least c.args.sums.now c.args.row c.args.moves.now c.loop-i.best c.requires.ascending
    (subst (λ n. IsFirstMaxByKey (λ d. slice_index c.args.sums.now (c.args.row + d)) c.args.moves.now n c.loop-i.best) all c.loop-i.invariant)
