use Rattle.plan_command.proofs.MadeBest.{made_is_accepted, made_is_within, written_is_accepted}
use Rattle.plan_command.proofs.made_laws.made_is_accepted.Goals as goal

pub returns : goal.returns
returns c = record { accepted = made_is_accepted; within = made_is_within; written = written_is_accepted }
