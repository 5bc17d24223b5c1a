use Rattle.plan_command.proofs.Gapped.{gap_printable}
use Rattle.plan_command.proofs.gapping.text_of_gap.Goals as goal

pub print_gap-requires-clause-printable : goal.print_gap-requires-clause-printable
print_gap-requires-clause-printable c = gap_printable c.args.sc.now c.args.plan.now c.recall_sound.ensures c.requires.numbers c.requires.accepted c.requires.few
