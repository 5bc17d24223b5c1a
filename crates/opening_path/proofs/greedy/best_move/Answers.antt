use Rattle.std.proofs.Common.{◌<◌, ◌≤◌, ◌≡◌, length, arith, subst}
use Rattle.std.proofs.lemmas.List.Elements.{Contains-get_or}
use Rattle.search_model.specs.Legal.{moves_after}
use Rattle.opening_path.specs.Greedy.{left_after}
use Rattle.opening_path.proofs.FirstLeast.{IsFirstLeast}
use Rattle.opening_path.proofs.GreedySteps.{first_leaves_least}
use Rattle.opening_path.proofs.Openings.{moves_row, move_is_position}
use Rattle.opening_path.proofs.greedy.best_move.Goals as goal

pub bounds-moves-0 : goal.bounds-moves-0
bounds-moves-0 c = rw c.moves_after-moves.ensures.value (omega (arith, (moves_row c.args.sc.now c.args.prefix.now c.moves_after-moves.ensures.sound c.requires.legal.follows).some))

pub left_after-least-requires-clause-position : goal.left_after-least-requires-clause-position
left_after-least-requires-clause-position c =
    let p = c.args.sc.now in
    let q = c.args.prefix.now in
    let row = moves_row p q c.moves_after-moves.ensures.sound c.requires.legal.follows in
    rw c.moves_after-moves.ensures.value (move_is_position p q _ c.moves_after-moves.ensures.sound c.requires.legal.follows (Contains-get_or (moves_after p q) 0 0 (omega (arith, row.some))))

pub left_after-left-requires-clause-position : goal.left_after-left-requires-clause-position
left_after-left-requires-clause-position c =
    let p = c.args.sc.now in
    let q = c.args.prefix.now in
    let inside : c.loop-i.i < length (moves_after p q) = rw c.moves_after-moves.ensures.value at c.loop-i-test.true in
    rw c.moves_after-moves.ensures.value (move_is_position p q _ c.moves_after-moves.ensures.sound c.requires.legal.follows (Contains-get_or (moves_after p q) c.loop-i.i 0 inside))

pub bounds-moves-best : goal.bounds-moves-best
bounds-moves-best c =
    let row = moves_row c.args.sc.now c.args.prefix.now c.moves_after-moves.ensures.sound c.requires.legal.follows in
    let some : 1 ≤ length c.moves_after-moves.result.now = rw c.moves_after-moves.ensures.value row.some in
    omega (arith, c.loop-i.invariant.first.place, c.loop-i.auto.i-end some)

pub returns-clause-least : goal.returns-clause-least
returns-clause-least c =
    let p = c.args.sc.now in
    let q = c.args.prefix.now in
    let moves = c.moves_after-moves.result.now in
    let row = moves_row p q c.moves_after-moves.ensures.sound c.requires.legal.follows in
    let some : 1 ≤ length moves = rw c.moves_after-moves.ensures.value row.some in
    let all : c.loop-i.i ≡ length moves = omega (arith, c.loop-i.auto.i-end some) in
    let first = subst (λ n. IsFirstLeast (left_after p q) moves n c.loop-i.best) all c.loop-i.invariant.first in
    rw (← c.moves_after-moves.ensures.value) (first_leaves_least p q moves c.loop-i.best (rw c.moves_after-moves.ensures.value row.ascending) first)
