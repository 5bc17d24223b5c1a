use Rattle.std.proofs.Common.{◌≡◌, ◌+◌, ◌-◌, ℕ, length, map, sym, ◌∙◌, arith}
use Rattle.search_grid.specs.Moves.{moves_from}
use Rattle.search_model.specs.Legal.{last_of, walks}
use Rattle.search_model.specs.Bounds.{reward_of, greatest}
use Rattle.longest_walk.proofs.RowSteps.{best_more, best_all}
use Rattle.edge_bound.proofs.Reached.{last_inside}
use Rattle.edge_bound.proofs.Walking.{listed_move}
use Rattle.two_look_bound.specs.Pairs.{second_sum}
use Rattle.two_look_bound.proofs.Walking.{listed_inside, firsts_greatest}
use Rattle.two_look_bound.proofs.rows.best_first.Goals as goal

pub first_sum-sum-requires-clause-from : goal.first_sum-sum-requires-clause-from
first_sum-sum-requires-clause-from c =
    let are : c.moves_after-moves.result.now ≡ moves_from c.args.given.now.sc.now.moves (last_of c.args.given.now.sc.now.start c.args.given.now.prefix.now) = c.moves_after-moves.ensures.value in
    let p = c.args.given.now.sc.now in
    let q = c.args.given.now.prefix.now in
    let sound = c.moves_after-moves.ensures.sound in
    let last = last_inside p sound q c.requires.given.legal in
    listed_inside p sound (last_of p.start q) c.loop-a.a-index c.moves_after-moves.result.now (omega (arith, last, sound.grid_positions)) are c.loop-a-test.true

pub first_sum-sum-requires-clause-step : goal.first_sum-sum-requires-clause-step
first_sum-sum-requires-clause-step c =
    let are : c.moves_after-moves.result.now ≡ moves_from c.args.given.now.sc.now.moves (last_of c.args.given.now.sc.now.start c.args.given.now.prefix.now) = c.moves_after-moves.ensures.value in
    listed_move c.args.given.now.sc.now (last_of c.args.given.now.sc.now.start c.args.given.now.prefix.now) c.loop-a.a-index c.moves_after-moves.result.now are c.loop-a-test.true

pub loop-a-preserved : goal.loop-a-preserved
loop-a-preserved c =
    let p = c.args.given.now.sc.now in
    let q = c.args.given.now.prefix.now in
    let f : ℕ → ℕ = λ a. reward_of p q (length q + 1) a + greatest (map (second_sum p q a) (walks p.moves (p.horizon - (length q + 1)) a)) in
    rw (c.max-best.ensures, c.first_sum-sum.ensures)
    (best_more f c.moves_after-moves.result.now c.loop-a.a-index c.loop-a.best _ c.loop-a-test.true c.loop-a.invariant)

pub returns : goal.returns
returns c =
    let are : c.moves_after-moves.result.now ≡ moves_from c.args.given.now.sc.now.moves (last_of c.args.given.now.sc.now.start c.args.given.now.prefix.now) = c.moves_after-moves.ensures.value in
    let p = c.args.given.now.sc.now in
    let q = c.args.given.now.prefix.now in
    let f : ℕ → ℕ = λ a. reward_of p q (length q + 1) a + greatest (map (second_sum p q a) (walks p.moves (p.horizon - (length q + 1)) a)) in
    let all = best_all f c.moves_after-moves.result.now c.loop-a.a-index c.loop-a.best _ c.loop-a-test.false c.loop-a.invariant in
    rw are at all
    ∙ sym (firsts_greatest p q c.moves_after-moves.ensures.sound c.requires.given.legal c.requires.short)
