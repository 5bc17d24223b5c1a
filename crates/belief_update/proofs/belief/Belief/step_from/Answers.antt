use Rattle.std.proofs.Common.{◌≡◌, true, false, [], ◌∷◌, ◌++◌, Some, None, ◌∙◌}
use Rattle.belief_update.proofs.BeliefSteps.{is_looked-last}
use Rattle.belief_update.proofs.belief.Belief.step_from.Goals as goal

pub returns-clause-first : goal.returns-clause-first
returns-clause-first g c looks given =
    let looked : c.args.before.now.looked ≡ false = given.looked ∙ is_looked-last looks None in
    let ready = rw looked at (c.advance_from.ensures.belief (looks ++ None ∷ []) given) in
    c.look.ensures.belief looks ready

pub returns-clause-later : goal.returns-clause-later
returns-clause-later g c looks a given =
    let looked : c.args.before.now.looked ≡ true = given.looked ∙ is_looked-last looks (Some a) in
    let ready = rw looked at (c.advance_from.ensures.belief (looks ++ Some a ∷ []) given) in
    c.look.ensures.belief (looks ++ Some a ∷ []) ready
