use Rattle.std.proofs.Common.{◌≡◌, ◌+◌, ◌*◌, ◌<◌, ℕ, length, sym, ◌∙◌, arith}
use Rattle.std.proofs.lemmas.List.Elements.{All-weaker}
use Rattle.search_grid.specs.Moves.{moves_from}
use Rattle.longest_walk.proofs.RowSteps.{best_more, best_all}
use Rattle.edge_bound.proofs.Walking.{listed_move}
use Rattle.two_look_bound.specs.Pairs.{two_and_rest}
use Rattle.two_look_bound.proofs.Walking.{sums_behind, move_inside, listed_inside, pair_there, pair_inside, best_begun}
use Rattle.two_look_bound.proofs.pairs.best_after.Goals as goal

pub least_move-top-requires-clause-some : goal.least_move-top-requires-clause-some
least_move-top-requires-clause-some c =
    let p = c.args.given.now.sc.now in
    let sound = c.grid.ensures.sound in
    rw (c.moves-moves.ensures.value, c.grid.ensures.value) (sound.grid.each c.args.b (omega (arith, c.requires.to, sound.grid_positions))).some

pub least_move-top-requires-clause-ascending : goal.least_move-top-requires-clause-ascending
least_move-top-requires-clause-ascending c =
    let p = c.args.given.now.sc.now in
    let sound = c.grid.ensures.sound in
    rw (c.moves-moves.ensures.value, c.grid.ensures.value) (sound.grid.each c.args.b (omega (arith, c.requires.to, sound.grid_positions))).ascending

pub least_move-top-requires-clause-within : goal.least_move-top-requires-clause-within
least_move-top-requires-clause-within c =
    let p = c.args.given.now.sc.now in
    let sound = c.grid.ensures.sound in
    let n = length c.args.pairs.now in
    let row = sound.grid.each c.args.b (omega (arith, c.requires.to, sound.grid_positions)) in
    let each : (d : ℕ) → d < length p.moves → c.args.b * p.positions + d < n =
    λ d there. omega (arith, pair_inside p.positions c.args.b d c.requires.to (omega (arith, there, sound.grid_positions)), c.requires.size) in
    rw (c.moves-moves.ensures.value, c.grid.ensures.value, c.from.ensures, c.from-2.ensures, c.positions.ensures.value)
    (All-weaker (λ d. d < length p.moves) (λ d. c.args.b * p.positions + d < n) each (moves_from p.moves c.args.b) row.within)

pub sum_at-first-requires : goal.sum_at-first-requires
sum_at-first-requires c =
    let p = c.args.given.now.sc.now in
    let there = rw (c.moves-moves.ensures.value, c.grid.ensures.value) at c.least_move-top.ensures.move in
    let to = move_inside p c.grid.ensures.sound c.args.b _ c.requires.to there in
    rw (c.from.ensures, c.from-2.ensures, c.positions.ensures.value) (omega (arith, pair_inside p.positions c.args.b _ c.requires.to to, c.requires.size))

pub gain_by_row-best-requires-clause-to : goal.gain_by_row-best-requires-clause-to
gain_by_row-best-requires-clause-to c =
    let there = rw (c.moves-moves.ensures.value, c.grid.ensures.value) at c.least_move-top.ensures.move in
    move_inside c.args.given.now.sc.now c.grid.ensures.sound c.args.b _ c.requires.to there

pub gain_by_row-best-requires-clause-gain : goal.gain_by_row-best-requires-clause-gain
gain_by_row-best-requires-clause-gain c =
    let there = rw (c.moves-moves.ensures.value, c.grid.ensures.value) at c.least_move-top.ensures.move in
    rw (c.sum_at-first.ensures, c.from.ensures, c.from-2.ensures, c.positions.ensures.value)
    (pair_there c.args.given.now.sc.now c.args.given.now.prefix.now c.args.pairs.now c.args.s c.args.a c.args.b _ c.requires.middle.later c.requires.near c.requires.step there c.requires.pairs)

pub loop-c-init : goal.loop-c-init
loop-c-init c =
    let f : ℕ → ℕ = two_and_rest c.args.given.now.sc.now c.args.given.now.prefix.now c.args.s c.args.a c.args.b in
    rw c.gain_by_row-best.ensures (record {
      best = best_begun f c.moves-moves.result.now c.least_move-top.result c.least_move-top.ensures.move;
      top = omega arith;
    })

pub sum_at-gain-requires : goal.sum_at-gain-requires
sum_at-gain-requires c =
    let p = c.args.given.now.sc.now in
    let are : c.moves-moves.result.now ≡ moves_from p.moves c.args.b = rw (← c.grid.ensures.value) c.moves-moves.ensures.value in
    let to = listed_inside p c.grid.ensures.sound c.args.b c.loop-c.c-index c.moves-moves.result.now c.requires.to are c.loop-c-test.true in
    rw (c.from.ensures, c.from-2.ensures, c.positions.ensures.value) (omega (arith, pair_inside p.positions c.args.b _ c.requires.to to, c.requires.size))

pub better_by_row-best-requires-clause-to : goal.better_by_row-best-requires-clause-to
better_by_row-best-requires-clause-to c =
    let are : c.moves-moves.result.now ≡ moves_from c.args.given.now.sc.now.moves c.args.b = rw (← c.grid.ensures.value) c.moves-moves.ensures.value in
    listed_inside c.args.given.now.sc.now c.grid.ensures.sound c.args.b c.loop-c.c-index c.moves-moves.result.now c.requires.to are c.loop-c-test.true

pub better_by_row-best-requires-clause-gain : goal.better_by_row-best-requires-clause-gain
better_by_row-best-requires-clause-gain c =
    let p = c.args.given.now.sc.now in
    let are : c.moves-moves.result.now ≡ moves_from p.moves c.args.b = rw (← c.grid.ensures.value) c.moves-moves.ensures.value in
    let next = listed_move p c.args.b c.loop-c.c-index c.moves-moves.result.now are c.loop-c-test.true in
    rw (c.sum_at-gain.ensures, c.from.ensures, c.from-2.ensures, c.positions.ensures.value) (pair_there p c.args.given.now.prefix.now c.args.pairs.now c.args.s c.args.a c.args.b _ c.requires.middle.later c.requires.near c.requires.step next c.requires.pairs)

pub loop-c-preserved : goal.loop-c-preserved
loop-c-preserved c =
    let p = c.args.given.now.sc.now in
    let q = c.args.given.now.prefix.now in
    let s = c.args.s in
    let f : ℕ → ℕ = two_and_rest p q s c.args.a c.args.b in
    rw c.better_by_row-best.ensures (record {
      best = best_more f c.moves-moves.result.now c.loop-c.c-index c.loop-c.best _ c.loop-c-test.true c.loop-c.invariant.best;
      top = omega (arith, c.loop-c.invariant.top);
    })

pub returns : goal.returns
returns c =
    let are : c.moves-moves.result.now ≡ moves_from c.args.given.now.sc.now.moves c.args.b = rw (← c.grid.ensures.value) c.moves-moves.ensures.value in
    let p = c.args.given.now.sc.now in
    let q = c.args.given.now.prefix.now in
    let s = c.args.s in
    let f : ℕ → ℕ = two_and_rest p q s c.args.a c.args.b in
    let all = best_all f c.moves-moves.result.now c.loop-c.c-index c.loop-c.best _ c.loop-c-test.false c.loop-c.invariant.best in
    rw are at all
    ∙ sym (sums_behind p q s c.args.a c.args.b c.grid.ensures.sound c.requires.middle.last c.requires.to)
