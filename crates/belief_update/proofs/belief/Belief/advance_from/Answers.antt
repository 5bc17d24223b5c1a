use Rattle.std.proofs.Common.{sym, ap, ◌∙◌}
use Rattle.belief_update.specs.Belief.{BeliefState}
use Rattle.belief_update.proofs.BeliefSteps.{unlooked_is}
use Rattle.belief_update.proofs.belief.Belief.advance_from.Goals as goal

pub returns-else-before-clause-unlooked : goal.returns-else-before-clause-unlooked
returns-else-before-clause-unlooked c =
    rw c.copy_from.ensures (unlooked_is c.args.sc.now c.args.before.now c.requires.belief (sym (ap (λ (b : BeliefState). b.looked) c.before-2.view_is) ∙ c.if-before.false))
