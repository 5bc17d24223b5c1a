use Rattle.std.proofs.Common.{[], ◌∷◌, None, ap, arith, length, length-append}
use Rattle.std.proofs.lemmas.List.Elements.{All-push, All-same}
use Rattle.belief_update.specs.Belief.{BeliefState, IsBelief}
use Rattle.belief_update.proofs.trail.first_beliefs.Goals as goal

-- one belief more
pub loop-preserved : goal.loop-preserved
loop-preserved c =
    let Right : BeliefState → Type 0 = IsBelief c.args.sc.now (None ∷ []) in
    let old = c.loop.beliefs.items in
    let next = c.in_ok-start.field-0 in
    let items = c.in_ok-push.ensures.items in
    record {
      size = omega (arith, ap length items, length-append old (next ∷ []), c.loop.invariant.size);
      each = All-same Right _ _ items (All-push Right old next c.loop.invariant.each c.in_ok-start.ensures);
    }
