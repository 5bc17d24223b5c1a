use Rattle.plan_command.proofs.Planned.{gapped_is_accepted, gapped_behind_canonical, gapped_behind_input, gapped_is_within, gapped_is_within_behind_input}
use Rattle.plan_command.proofs.laws.what_is_gapped_is_accepted.Goals as goal

pub returns : goal.returns
returns c = record { accepted = gapped_is_accepted; canonical = gapped_behind_canonical; input = gapped_behind_input; within = gapped_is_within; within_input = gapped_is_within_behind_input }
