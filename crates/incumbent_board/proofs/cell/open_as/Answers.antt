use Rattle.incumbent_board.proofs.Passes.{starts}
use Rattle.incumbent_board.proofs.cell.open_as.Goals as goal

pub split_step-place-requires-clause-rule : goal.split_step-place-requires-clause-rule
split_step-place-requires-clause-rule g c = starts g.S.Offered.offer _ _ c.in_ok-cell.ensures.view
