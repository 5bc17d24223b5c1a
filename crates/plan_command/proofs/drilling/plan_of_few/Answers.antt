use Rattle.plan_command.proofs.Printing.{accepted_printable, accepted_in_place}
use Rattle.plan_command.proofs.Versions.{plan_serves, accepted_lettered}
use Rattle.tree_format.specs.Dialects.{plan_dialect_for}
use Rattle.plan_command.proofs.drilling.plan_of_few.Goals as goal

pub returns-in-Ok-clause-printable : goal.returns-in-Ok-clause-printable
returns-in-Ok-clause-printable g c = accepted_printable c.args.sc.now c.in-Ok.plan c.recall_sound.ensures c.in-Ok.ensures.0.accepted c.in-Ok.ensures.1

pub returns-in-Ok-clause-letters : goal.returns-in-Ok-clause-letters
returns-in-Ok-clause-letters g c = accepted_lettered (plan_dialect_for c.args.sc.now) c.args.sc.now c.in-Ok.plan (plan_serves c.args.sc.now) c.in-Ok.ensures.0.accepted

pub returns-in-Ok-clause-in_place : goal.returns-in-Ok-clause-in_place
returns-in-Ok-clause-in_place g c = accepted_in_place c.args.sc.now c.in-Ok.plan c.in-Ok.ensures.0.accepted
