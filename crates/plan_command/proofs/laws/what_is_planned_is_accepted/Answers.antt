use Rattle.plan_command.proofs.Planned.{planned_is_accepted, planned_behind_canonical, planned_behind_input, planned_is_within, planned_is_within_behind_input}
use Rattle.plan_command.proofs.laws.what_is_planned_is_accepted.Goals as goal

pub returns : goal.returns
returns c = record { accepted = planned_is_accepted; canonical = planned_behind_canonical; input = planned_behind_input; within = planned_is_within; within_input = planned_is_within_behind_input }
