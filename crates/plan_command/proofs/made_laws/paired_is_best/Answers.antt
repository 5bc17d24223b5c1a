use Rattle.plan_command.proofs.MadeBest.{paired_is_best}
use Rattle.plan_command.proofs.made_laws.paired_is_best.Goals as goal

pub returns : goal.returns
returns c = paired_is_best
