use Rattle.std.proofs.Common.{◌≡◌, ℕ, sym, ◌∙◌, arith}
use Rattle.search_grid.specs.Moves.{moves_from}
use Rattle.edge_bound.specs.Moves.{edge_and_later}
use Rattle.search_model.proofs.Totals.{whole_weight-fits}
use Rattle.longest_walk.proofs.RowSteps.{best_more, best_all}
use Rattle.edge_bound.proofs.Fitting.{found_parts-within}
use Rattle.edge_bound.proofs.CellShares.{own_inside}
use Rattle.edge_bound.proofs.Walking.{sums_before, listed_move}
use Rattle.edge_bound.proofs.best.best_own.Goals as goal

pub overflow_mul-share : goal.overflow_mul-share
overflow_mul-share c =
    let p = c.args.sc.now in
    let sound = c.grid.ensures.sound in
    let most = found_parts-within p sound c.args.prefix.now c.args.t c.args.a c.requires.period.later c.requires.period.last in
    rw (c.found_by.ensures, c.requires.parts) (omega (arith, most, whole_weight-fits p sound))

pub place-place-requires-clause-inside : goal.place-place-requires-clause-inside
place-place-requires-clause-inside c =
    let own = own_inside c.args.sc.now c.args.a c.grid.ensures.sound c.requires.own in
    c.requires.units.inside c.args.t c.args.a 0 (omega (arith, c.requires.period.later)) c.requires.period.last own (omega (arith, c.requires.from))

pub sum_through-sum-requires-clause-step : goal.sum_through-sum-requires-clause-step
sum_through-sum-requires-clause-step c =
    let p = c.args.sc.now in
    let moves : c.moves-moves.result.now ≡ moves_from p.moves c.args.a = rw (← c.grid.ensures.value) c.moves-moves.ensures.value in
    listed_move p c.args.a c.loop-b.b-index c.moves-moves.result.now moves c.loop-b-test.true

pub loop-b-preserved : goal.loop-b-preserved
loop-b-preserved c =
    let f : ℕ → ℕ = edge_and_later c.args.sc.now c.args.prefix.now c.args.t c.args.a in
    rw (c.max-best.ensures, c.sum_through-sum.ensures)
    (best_more f c.moves-moves.result.now c.loop-b.b-index c.loop-b.best _ c.loop-b-test.true c.loop-b.invariant)

pub gain_before-requires-clause-best : goal.gain_before-requires-clause-best
gain_before-requires-clause-best c =
    let p = c.args.sc.now in
    let q = c.args.prefix.now in
    let f : ℕ → ℕ = edge_and_later p q c.args.t c.args.a in
    let moves : c.moves-moves.result.now ≡ moves_from p.moves c.args.a = rw (← c.grid.ensures.value) c.moves-moves.ensures.value in
    let all = best_all f c.moves-moves.result.now c.loop-b.b-index c.loop-b.best _ c.loop-b-test.false c.loop-b.invariant in
    rw moves at all
    ∙ sym (sums_before p q c.args.t c.args.a c.grid.ensures.sound c.requires.period.last c.requires.from)
