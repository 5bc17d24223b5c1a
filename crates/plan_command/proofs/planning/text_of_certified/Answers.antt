use Rattle.std.proofs.Common.{arith}
use Rattle.plan_command.proofs.Printing.{accepted_printable, accepted_in_place}
use Rattle.plan_command.proofs.Versions.{plan_serves, accepted_lettered}
use Rattle.tree_format.specs.Dialects.{plan_dialect_for}
use Rattle.plan_command.proofs.planning.text_of_certified.Goals as goal

pub text_of_plan-requires-clause-printable : goal.text_of_plan-requires-clause-printable
text_of_plan-requires-clause-printable c = accepted_printable c.args.sc.now c.args.plan.now c.recall_sound.ensures c.requires.certified.accepted (omega (arith, c.requires.few, c.requires.nodes))

pub text_of_plan-requires-clause-letters : goal.text_of_plan-requires-clause-letters
text_of_plan-requires-clause-letters c = accepted_lettered (plan_dialect_for c.args.sc.now) c.args.sc.now c.args.plan.now (plan_serves c.args.sc.now) c.requires.certified.accepted

pub text_of_plan-requires-clause-in_place : goal.text_of_plan-requires-clause-in_place
text_of_plan-requires-clause-in_place c = accepted_in_place c.args.sc.now c.args.plan.now c.requires.certified.accepted
