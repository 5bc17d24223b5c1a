use Rattle.std.proofs.Common.{true, refl}
use Rattle.plan_command.proofs.Verdicts.{plan_rejected}
use Rattle.plan_command.proofs.Converted.{kept_printable, kept_lettered, kept_in_place, kept_converted}
use Rattle.plan_command.proofs.converting.answer_convert.Goals as goal

pub text_of_plan-requires-clause-printable : goal.text_of_plan-requires-clause-printable
text_of_plan-requires-clause-printable c = kept_printable c.requires.0 c.args.judgement.now c.requires.1

pub text_of_plan-requires-clause-letters : goal.text_of_plan-requires-clause-letters
text_of_plan-requires-clause-letters c = kept_lettered c.requires.0 c.args.judgement.now c.requires.1 c.in-Accepted.is

pub text_of_plan-requires-clause-in_place : goal.text_of_plan-requires-clause-in_place
text_of_plan-requires-clause-in_place c = kept_in_place c.requires.0 c.args.judgement.now c.requires.1 c.in-Accepted.is

pub returns-in_ok-text_of_plan-in-Accepted : goal.returns-in_ok-text_of_plan-in-Accepted
returns-in_ok-text_of_plan-in-Accepted c = λ words input judges. kept_converted input c.args.judgement.now judges words _ _ c.in-Accepted.is refl c.in_ok-text_of_plan-in-Accepted.ensures

pub returns-in-Rejected : goal.returns-in-Rejected
returns-in-Rejected c = λ words input judges. (tt, plan_rejected true input c.args.judgement.now c.in-Rejected.at c.as_plain.result c.in-Rejected.is c.as_plain.ensures judges)
