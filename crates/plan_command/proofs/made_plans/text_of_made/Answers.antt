use Rattle.std.proofs.Common.{arith}
use Rattle.plan_command.proofs.Printing.{accepted_printable, accepted_in_place}
use Rattle.plan_command.proofs.Versions.{plan_serves, accepted_lettered}
use Rattle.tree_format.specs.Dialects.{plan_dialect_for}
use Rattle.plan_command.proofs.made_plans.text_of_made.Goals as goal

pub print_plan_for-requires-clause-printable : goal.print_plan_for-requires-clause-printable
print_plan_for-requires-clause-printable c = accepted_printable c.args.made.now c.args.plan.now c.recall_sound.ensures c.requires.certified.accepted (omega (arith, c.requires.few, c.requires.nodes))

pub print_plan_for-requires-clause-letters : goal.print_plan_for-requires-clause-letters
print_plan_for-requires-clause-letters c = accepted_lettered (plan_dialect_for c.args.made.now) c.args.made.now c.args.plan.now (plan_serves c.args.made.now) c.requires.certified.accepted

pub print_plan_for-requires-clause-in_place : goal.print_plan_for-requires-clause-in_place
print_plan_for-requires-clause-in_place c = accepted_in_place c.args.made.now c.args.plan.now c.requires.certified.accepted
