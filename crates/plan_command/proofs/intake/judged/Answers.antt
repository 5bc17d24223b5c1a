use Rattle.std.proofs.Common.{sym, subst}
use Rattle.bound_tree.specs.declared.plan.Plan.{Plan}
use Rattle.plan_command.specs.Intakes.{TellsRest}
use Rattle.plan_command.proofs.intake.judged.Goals as goal

pub returns : goal.returns
returns c = λ task input h.
    c.judgement_of.ensures task input h.rest h.begins (subst (λ (kept : Plan). TellsRest task c.args.judge.sc kept h.rest c.finish-said.result) (sym c.plan_kept-plan.ensures) (c.finish-said.ensures task h.rest h.taken))
