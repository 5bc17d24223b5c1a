use Rattle.bound_tree.proofs.ExampleGaps.{worked_gaps_hold}
use Rattle.bound_tree.proofs.gap_laws.worked_gaps.Goals as goal

pub returns : goal.returns
returns c = worked_gaps_hold
