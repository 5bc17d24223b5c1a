use Rattle.std.proofs.Common.{◌++◌, sym, subst}
use Rattle.plan_command.specs.declared.intake.Intake.TheVariants as intakes
use Rattle.plan_command.specs.Intakes.{Lacks, HasTaken}
use Rattle.plan_command.proofs.Gathering.{gathered_more}
use Rattle.plan_command.proofs.Judging.{plan_taken, plan_more, plan_stops, stopped_more}
use Rattle.plan_command.proofs.intake.Intake.take_piece.Goals as goal

pub take-requires : goal.take-requires
take-requires c = plan_taken c.requires.0 c.requires.1 c.args.piece.now c.args.self.now c.requires.2 c.in-Plan.judge c.in-Plan.is

pub returns-in-Scenario : goal.returns-in-Scenario
returns-in-Scenario c = λ task bytes h.
    gathered_more task c.in-Scenario.task bytes c.in-Scenario.text.items c.args.piece.now c.gathered_on.new.text.items (intakes.Scenario c.in-Scenario.alloc c.in-Scenario.task c.gathered_on.new.text) c.gathered_on.result
    (subst (HasTaken task bytes) c.in-Scenario.is h) c.gathered_on.ensures (λ taken. taken)

pub returns-in-Ok : goal.returns-in-Ok
returns-in-Ok c = λ task bytes h. plan_more task bytes c.args.piece.now c.args.self.now h c.in-Plan.judge c.take.new.self c.in-Plan.is c.take.ensures.scenario (c.in-Ok.ensures.taken task)

pub returns-in-Err : goal.returns-in-Err
returns-in-Err c = λ task bytes h.
    subst (Lacks task (bytes ++ c.args.piece.now)) (sym c.stop_by.ensures) (plan_stops task bytes c.args.piece.now c.args.self.now h c.in-Plan.judge c.in-Err.stop c.in-Plan.is c.in-Err.ensures.fault)

pub returns-in-Stopped : goal.returns-in-Stopped
returns-in-Stopped c = λ task bytes h. stopped_more task bytes c.args.piece.now c.args.self.now h _ c.in-Stopped.is
