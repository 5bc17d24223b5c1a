use Rattle.std.proofs.Common.{◌<◌, ◌^◌, subst}
use Rattle.incumbent_board.specs.Boards.{BoardView}
use Rattle.incumbent_board.proofs.Shown.{shows}
use Rattle.incumbent_board.proofs.board.Board.look_for.Goals as goal

pub returns-clause-shows : goal.returns-clause-shows
returns-clause-shows g c =
    let small = subst (λ (b : BoardView). b.first.value < 2 ^ 127) c.self.view_is c.self.invariant in
    shows c.args.self.now.first _ _ _ _ c.requires.seen.1 c.requires.seen.0 small c.look_at-words.ensures.looks c.standing.ensures
