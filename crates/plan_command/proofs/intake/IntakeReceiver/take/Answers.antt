use Rattle.std.proofs.Common.{◌++◌, sym, subst}
use Rattle.plan_command.specs.Intakes.{HasTaken}
use Rattle.plan_command.proofs.intake.IntakeReceiver.take.Goals as goal

pub returns-in-Some : goal.returns-in-Some
returns-in-Some c = record {
  more = λ task bytes h. subst (HasTaken task (bytes ++ c.args.piece.now)) (sym c.replace.ensures.after) (c.in-Some.ensures task bytes h);
}
