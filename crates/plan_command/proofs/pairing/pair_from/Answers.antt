use Rattle.plan_command.proofs.MakingPlans.{product_pairs}
use Rattle.plan_command.proofs.pairing.pair_from.Goals as goal

pub returns-in-Ok : goal.returns-in-Ok
returns-in-Ok g c = λ name named.
    product_pairs c.args.nodes c.args.sc.now c.in-Ok.made name c.made_and_planned-text.result (c.in-Ok.ensures.sound, (c.args.second, named, c.in-Ok.ensures.made)) c.made_and_planned-text.ensures
