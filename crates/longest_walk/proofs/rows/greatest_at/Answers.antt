use Rattle.std.proofs.Common.{◌+◌, slice_index}
use Rattle.longest_walk.proofs.RowSteps.{best_more, best_all}
use Rattle.longest_walk.proofs.rows.greatest_at.Goals as goal

pub loop-d-preserved : goal.loop-d-preserved
loop-d-preserved c =
    rw (c.max-best.ensures, c.from.ensures)
    (best_more (λ d. slice_index c.args.sums.now (c.args.row + d)) c.args.moves.now c.loop-d.d-index c.loop-d.best _ c.loop-d-test.true c.loop-d.invariant)

pub returns : goal.returns
returns c = best_all (λ d. slice_index c.args.sums.now (c.args.row + d)) c.args.moves.now c.loop-d.d-index c.loop-d.best _ c.loop-d-test.false c.loop-d.invariant
