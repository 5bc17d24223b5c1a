use Rattle.std.proofs.Common.{◌<◌, ◌≡◌, length, ◌∙◌, ap, arith}
use Rattle.search_grid.specs.Moves.{moves_from}
use Rattle.duo_search.proofs.Reasons.{many_with_itself}
use Rattle.duo_search.proofs.faults.has_many_moves.Goals as goal

pub returns-then-moves-gt-MOST_MOVES : goal.returns-then-moves-gt-MOST_MOVES
returns-then-moves-gt-MOST_MOVES c =
    let row : c.moves.result.now ≡ moves_from c.args.sc.now.moves c.loop-position.position = c.moves.ensures.value ∙ ap (λ rows. moves_from rows c.loop-position.position) c.grid.ensures.value in
    let many : 8 < length (moves_from c.args.sc.now.moves c.loop-position.position) = rw (← row) (omega arith) in
    many_with_itself c.args.sc.now c.loop-position.position (omega (arith, c.positions-position-end.ensures.value)) many
