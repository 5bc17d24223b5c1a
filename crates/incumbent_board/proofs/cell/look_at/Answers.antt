use Rattle.incumbent_board.proofs.Steps.{looks}
use Rattle.incumbent_board.proofs.cell.look_at.Goals as goal

pub load_step-requires-clause-rule : goal.load_step-requires-clause-rule
load_step-requires-clause-rule g c = looks _ _ c.requires.some
