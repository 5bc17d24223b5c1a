use Rattle.std.proofs.Common.{◌≡◌, ◌*◌, ℕ, slice_index, inr, sym, refl, ◌∙◌, arith}
use Rattle.std.proofs.lemmas.List.{get_or-drop, length-drop}
use Rattle.search_grid.specs.Moves.{moves_from}
use Rattle.longest_walk.proofs.RowSteps.{best_more, best_all}
use Rattle.edge_bound.proofs.Walking.{listed_move}
use Rattle.two_look_bound.specs.Pairs.{two_and_rest}
use Rattle.two_look_bound.proofs.Walking.{sums_behind, listed_inside, pair_there, pair_inside}
use Rattle.two_look_bound.proofs.own.best_own.Goals as goal

pub bounds-sums-from : goal.bounds-sums-from
bounds-sums-from c =
    let p = c.args.given.now.sc.now in
    let are : c.moves-moves.result.now ≡ moves_from p.moves c.args.b = rw (← c.grid.ensures.value) c.moves-moves.ensures.value in
    let to = listed_inside p c.grid.ensures.sound c.args.b c.loop-c.c-index c.moves-moves.result.now c.requires.to are c.loop-c-test.true in
    rw (c.from.ensures, c.sums_from-sums.ensures) (omega (arith, length-drop (c.args.b * p.positions) c.args.pairs.now, pair_inside p.positions c.args.b _ c.requires.to to, c.requires.size))

pub bounds-skips-from : goal.bounds-skips-from
bounds-skips-from c =
    let p = c.args.given.now.sc.now in
    let are : c.moves-moves.result.now ≡ moves_from p.moves c.args.b = rw (← c.grid.ensures.value) c.moves-moves.ensures.value in
    rw (c.from-in-loop-c.ensures, c.requires.width) (listed_inside p c.grid.ensures.sound c.args.b c.loop-c.c-index c.moves-moves.result.now c.requires.to are c.loop-c-test.true)

pub better_own-best-requires-clause-to : goal.better_own-best-requires-clause-to
better_own-best-requires-clause-to c =
    let are : c.moves-moves.result.now ≡ moves_from c.args.given.now.sc.now.moves c.args.b = rw (← c.grid.ensures.value) c.moves-moves.ensures.value in
    listed_inside c.args.given.now.sc.now c.grid.ensures.sound c.args.b c.loop-c.c-index c.moves-moves.result.now c.requires.to are c.loop-c-test.true

pub better_own-best-requires-clause-outer : goal.better_own-best-requires-clause-outer
better_own-best-requires-clause-outer c =
    let are : c.moves-moves.result.now ≡ moves_from c.args.given.now.sc.now.moves c.args.b = rw (← c.grid.ensures.value) c.moves-moves.ensures.value in
    let next = listed_move c.args.given.now.sc.now c.args.b c.loop-c.c-index c.moves-moves.result.now are c.loop-c-test.true in
    rw c.from-in-loop-c.ensures (c.requires.skips _ (inr (c.args.b, inr (c.args.a, refl, c.requires.step), next)))

pub better_own-best-requires-clause-gain : goal.better_own-best-requires-clause-gain
better_own-best-requires-clause-gain c =
    let p = c.args.given.now.sc.now in
    let are : c.moves-moves.result.now ≡ moves_from p.moves c.args.b = rw (← c.grid.ensures.value) c.moves-moves.ensures.value in
    let next = listed_move p c.args.b c.loop-c.c-index c.moves-moves.result.now are c.loop-c-test.true in
    rw (c.from.ensures, c.sums_from-sums.ensures, get_or-drop (c.args.b * p.positions) c.args.pairs.now (slice_index c.moves-moves.result.now c.loop-c.c-index) 0) (pair_there p c.args.given.now.prefix.now c.args.pairs.now c.args.s c.args.a c.args.b _ c.requires.middle.later c.requires.near c.requires.step next c.requires.pairs)

pub loop-c-preserved : goal.loop-c-preserved
loop-c-preserved c =
    let p = c.args.given.now.sc.now in
    let q = c.args.given.now.prefix.now in
    let s = c.args.s in
    let f : ℕ → ℕ = two_and_rest p q s c.args.a c.args.b in
    rw c.better_own-best.ensures
    (best_more f c.moves-moves.result.now c.loop-c.c-index c.loop-c.best _ c.loop-c-test.true c.loop-c.invariant)

pub returns : goal.returns
returns c =
    let are : c.moves-moves.result.now ≡ moves_from c.args.given.now.sc.now.moves c.args.b = rw (← c.grid.ensures.value) c.moves-moves.ensures.value in
    let p = c.args.given.now.sc.now in
    let q = c.args.given.now.prefix.now in
    let s = c.args.s in
    let f : ℕ → ℕ = two_and_rest p q s c.args.a c.args.b in
    let all = best_all f c.moves-moves.result.now c.loop-c.c-index c.loop-c.best _ c.loop-c-test.false c.loop-c.invariant in
    rw are at all
    ∙ sym (sums_behind p q s c.args.a c.args.b c.grid.ensures.sound c.requires.middle.last c.requires.to)
