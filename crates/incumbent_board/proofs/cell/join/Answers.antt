use Rattle.incumbent_board.proofs.Passes.{cuts, merges}
use Rattle.incumbent_board.proofs.cell.join.Goals as goal

pub split_step-whole-requires-clause-rule : goal.split_step-whole-requires-clause-rule
split_step-whole-requires-clause-rule c = cuts _ _

pub join_step-requires-clause-rule : goal.join_step-requires-clause-rule
join_step-requires-clause-rule c = merges _ _ _ _ c.requires.some
