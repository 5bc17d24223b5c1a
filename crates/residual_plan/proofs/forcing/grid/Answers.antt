use Rattle.std.proofs.Common.{sym, subst}
use Rattle.search_grid.specs.Moves.{IsGrid}
use Rattle.residual_plan.proofs.MoveCases.{is_grid}
use Rattle.residual_plan.proofs.forcing.grid.Goals as goal

pub of_right-requires : goal.of_right-requires
of_right-requires c = subst IsGrid (sym c.in_ok-rows.ensures) (is_grid c.args.sc.now c.args.flown.now c.recall_sound.ensures c.requires.legal c.requires.room)
