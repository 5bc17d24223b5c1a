use Rattle.search_model.proofs.ExampleBounds.{worked_bounds_hold}
use Rattle.search_model.proofs.laws.worked_bounds.Goals as goal

pub returns : goal.returns
returns c = worked_bounds_hold
