use Rattle.std.proofs.Common.{sym, ap, ◌∙◌}
use Rattle.belief_update.specs.Belief.{BeliefState}
use Rattle.belief_update.proofs.BeliefSteps.{unlooked_is}
use Rattle.belief_update.proofs.belief.Belief.advance.Goals as goal

pub returns-else-self-clause-unlooked : goal.returns-else-self-clause-unlooked
returns-else-self-clause-unlooked c = unlooked_is c.args.sc.now c.args.self.now c.requires.belief (sym (ap (λ (b : BeliefState). b.looked) c.self.view_is) ∙ c.if-self.false)
