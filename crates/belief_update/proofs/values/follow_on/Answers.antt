use Rattle.std.proofs.Common.{◌≡◌, take, arith}
use Rattle.std.proofs.lemmas.List.{take_all}
use Rattle.belief_update.proofs.TrailSteps.{looks_more}
use Rattle.belief_update.proofs.values.follow_on.Goals as goal

pub loop-a-preserved : goal.loop-a-preserved
loop-a-preserved c = record {
  period = omega (arith, c.look.ensures.period, c.drift.ensures.period, c.loop-a.invariant.period);
  belief = λ looks given.
      let looked = c.look.ensures.belief _ (c.drift.ensures.belief _ (c.loop-a.invariant.belief looks given)) in
      rw (← looks_more looks c.args.later.now c.loop-a.a-index c.loop-a-test.true) looked;
}

pub returns : goal.returns
returns c = λ looks given.
    let whole : take c.loop-a.a-index c.args.later.now ≡ c.args.later.now = take_all c.loop-a.a-index c.args.later.now (omega (arith, c.loop-a-test.false)) in
    rw whole at (c.loop-a.invariant.belief looks given)
