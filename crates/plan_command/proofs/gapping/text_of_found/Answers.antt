use Rattle.std.proofs.Common.{◌≡◌, refl, arith}
use Rattle.bound_tree.specs.declared.tree.TheConstants.{MOST_NODES}
use Rattle.plan_command.specs.declared.request.TheConstants.{MOST_CLOSED}
use Rattle.plan_command.proofs.Printing.{accepted_printable, accepted_in_place}
use Rattle.plan_command.proofs.Versions.{gap_serves, accepted_lettered}
use Rattle.bound_tree.specs.Gaps.{numbers_for}
use Rattle.tree_format.specs.Dialects.{dialect_with}
use Rattle.plan_command.proofs.gapping.text_of_found.Goals as goal

pub print_plan_as_gap-requires-clause-printable : goal.print_plan_as_gap-requires-clause-printable
print_plan_as_gap-requires-clause-printable c =
    let most : MOST_CLOSED ≡ 65536 = refl in
    let all : MOST_NODES ≡ 1048576 = refl in
    accepted_printable c.args.sc.now c.args.plan.now c.recall_sound.ensures c.requires.accepted (omega (arith, c.requires.few, most, all))

pub print_plan_as_gap-requires-clause-letters : goal.print_plan_as_gap-requires-clause-letters
print_plan_as_gap-requires-clause-letters c =
    let sc = c.args.sc.now in
    accepted_lettered (dialect_with (numbers_for sc)) sc c.args.plan.now (gap_serves sc) c.requires.accepted

pub print_plan_as_gap-requires-clause-in_place : goal.print_plan_as_gap-requires-clause-in_place
print_plan_as_gap-requires-clause-in_place c = accepted_in_place c.args.sc.now c.args.plan.now c.requires.accepted
