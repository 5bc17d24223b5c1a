use Rattle.std.proofs.Common.{arith}
use Rattle.search_model.proofs.Children.{some_moves}
use Rattle.scout_path.proofs.Ways.{moved_is_legal}
use Rattle.scout_path.proofs.rollout.best_ahead.Goals as goal

pub bounds-moves-0 : goal.bounds-moves-0
bounds-moves-0 c = rw c.moves_after-moves.ensures.value (omega (arith, some_moves c.args.sc.now c.args.prefix.now c.moves_after-moves.ensures.sound c.requires.legal))

pub tried-best-requires-clause-legal : goal.tried-best-requires-clause-legal
tried-best-requires-clause-legal c =
    let p = c.args.sc.now in
    let q = c.args.prefix.now in
    let some = some_moves p q c.moves_after-moves.ensures.sound c.requires.legal in
    rw (c.extended.ensures, c.moves_after-moves.ensures.value) (moved_is_legal p q 0 c.requires.legal c.requires.shorter (omega (arith, some)))

pub tried-next-requires-clause-legal : goal.tried-next-requires-clause-legal
tried-next-requires-clause-legal c =
    let p = c.args.sc.now in
    let q = c.args.prefix.now in
    rw (c.extended-in-loop-i.ensures, c.moves_after-moves.ensures.value)
    (moved_is_legal p q c.loop-i.i c.requires.legal c.requires.shorter (rw c.moves_after-moves.ensures.value at c.loop-i-test.true))
