use Rattle.incumbent_board.proofs.Passes.{deals}
use Rattle.incumbent_board.proofs.cell.deal.Goals as goal

pub split_step-requires-clause-rule : goal.split_step-requires-clause-rule
split_step-requires-clause-rule c = deals _ _ c.requires.two
