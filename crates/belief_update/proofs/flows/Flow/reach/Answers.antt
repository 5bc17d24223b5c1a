use Rattle.std.proofs.Common.{refl, arith}
use Rattle.belief_update.proofs.flows.Flow.reach.Goals as goal

pub loop-init : goal.loop-init
loop-init c = record {
  flow = λ a given. given;
  made = rw (← c.self.view_is) (omega (arith, c.len-counter.ensures, c.self.inside.spans.ok.0));
}

pub step-requires-clause-flow : goal.step-requires-clause-flow
step-requires-clause-flow c = let (a, given) = c.requires.flow in (a, c.loop.invariant.flow a given)

pub returns-then-not-step-clause-flow : goal.returns-then-not-step-clause-flow
returns-then-not-step-clause-flow c a given = c.step.ensures.flow a (c.loop.invariant.flow a given)

pub loop-preserved : goal.loop-preserved
loop-preserved c = record {
  flow = λ a given. c.step.ensures.flow a (c.loop.invariant.flow a given);
  made = omega (arith, c.if-not-step.ensures.made refl, c.loop.invariant.made);
}
