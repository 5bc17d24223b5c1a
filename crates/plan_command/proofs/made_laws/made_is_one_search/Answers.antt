use Rattle.plan_command.proofs.OneMade.{forced_by_names_is_one, paired_by_name_is_one, few_live_stays}
use Rattle.plan_command.proofs.made_laws.made_is_one_search.Goals as goal

pub returns : goal.returns
returns c = record { forced = forced_by_names_is_one; paired = paired_by_name_is_one; few = few_live_stays }
