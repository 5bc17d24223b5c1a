use Rattle.plan_command.proofs.MakingPlans.{forced_replans}
use Rattle.plan_command.proofs.replanning.replan_flown.Goals as goal

pub returns-in-Ok : goal.returns-in-Ok
returns-in-Ok g c = λ names is.
    forced_replans c.args.nodes c.args.sc.now c.in-Ok.made names c.made_and_planned-text.result (c.recall_sound.ensures, (c.args.flown.now, is, c.in-Ok.ensures.made)) c.made_and_planned-text.ensures
