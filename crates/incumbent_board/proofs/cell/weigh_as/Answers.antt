use Rattle.incumbent_board.proofs.Steps.{weighs}
use Rattle.incumbent_board.proofs.cell.weigh_as.Goals as goal

pub load_step-requires-clause-rule : goal.load_step-requires-clause-rule
load_step-requires-clause-rule g c = weighs g.S.Offered.offer _ _ c.requires.some
