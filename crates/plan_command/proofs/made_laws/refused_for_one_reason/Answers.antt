use Rattle.plan_command.proofs.OneReason.{one_prefix_is_named, flown_isnt_refused, forced_isnt_refused, one_why_isnt_forced}
use Rattle.plan_command.proofs.made_laws.refused_for_one_reason.Goals as goal

pub returns : goal.returns
returns c = record { one_prefix = one_prefix_is_named; flown = flown_isnt_refused; forced = forced_isnt_refused; one_why = one_why_isnt_forced }
