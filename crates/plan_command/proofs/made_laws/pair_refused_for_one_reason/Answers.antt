use Rattle.plan_command.proofs.OneReason.{product_isnt_refused, one_why_isnt_paired}
use Rattle.plan_command.proofs.made_laws.pair_refused_for_one_reason.Goals as goal

pub returns : goal.returns
returns c = record { product = product_isnt_refused; one_why = one_why_isnt_paired }
