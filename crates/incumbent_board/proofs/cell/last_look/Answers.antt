use Rattle.incumbent_board.proofs.Passes.{closes}
use Rattle.incumbent_board.proofs.cell.last_look.Goals as goal

pub load_step-requires-clause-rule : goal.load_step-requires-clause-rule
load_step-requires-clause-rule g c = closes _ _ c.requires.all
