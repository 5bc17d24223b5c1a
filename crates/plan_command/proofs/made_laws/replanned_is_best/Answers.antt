use Rattle.plan_command.proofs.MadeBest.{replanned_is_best}
use Rattle.plan_command.proofs.made_laws.replanned_is_best.Goals as goal

pub returns : goal.returns
returns c = replanned_is_best
