use Rattle.bound_tree.proofs.Ceilings.{gap_of_none_waiting, none_waiting_is_best, plan_is_gap_plan}
use Rattle.bound_tree.proofs.gap_laws.gap_of_none_waiting.Goals as goal

pub returns : goal.returns
returns c = record { accepted = gap_of_none_waiting; best = none_waiting_is_best; plan = plan_is_gap_plan }
