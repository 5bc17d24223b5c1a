use Rattle.gap_plan.proofs.SameGaps.{gap_accepts_same}
use Rattle.gap_plan.proofs.laws.same_search_same_gap_plans.Goals as goal

pub returns : goal.returns
returns c = gap_accepts_same
