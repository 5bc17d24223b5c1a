use Rattle.search_grid.proofs.Beside.{worked_sides}
use Rattle.search_grid.proofs.sides.worked_sides.Goals as goal

pub returns : goal.returns
returns c = worked_sides
