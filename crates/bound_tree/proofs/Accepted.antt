-- The path of an accepted plan is the best: it is the gap plan of its records, in which no node waits.
use Rattle.bound_tree.specs.Laws.{AcceptedIsBest}
use Rattle.bound_tree.specs.declared.gap.Numbers.TheVariants.{Means}
use Rattle.bound_tree.specs.Gaps.{gap_of}
use Rattle.bound_tree.proofs.Ceilings.{none_of_closed, none_waiting_is_best, plan_is_gap_plan}

pub accepted_plan_is_best : AcceptedIsBest
accepted_plan_is_best p plan sound a = none_waiting_is_best p (gap_of Means plan) sound (none_of_closed plan.tree) ((plan_is_gap_plan Means p plan).0 a)
