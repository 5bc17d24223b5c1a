use Rattle.std.proofs.Common.{◌<◌, ◌∷◌, [], ap, arith, length, length-append}
use Rattle.std.proofs.lemmas.List.{get_or_append_left}
use Rattle.belief_update.specs.Onward.{IsMadeBehind}
use Rattle.belief_update.proofs.LevelSteps.{none, rooms_more}
use Rattle.belief_update.proofs.levels.rooms.Goals as goal

-- one level more
pub loop-k-preserved : goal.loop-k-preserved
loop-k-preserved c =
    let p = c.args.sc.now in
    let old = c.loop-k.levels.items in
    let next = c.in_ok-behind.field-0 in
    let items = c.in_ok-push-2.ensures.items in
    let some : 0 < length old = omega (arith, c.loop-k.invariant.size, c.loop-k.auto.k) in
    let made : IsMadeBehind p (length old) next = rw c.loop-k.invariant.size c.in_ok-behind.ensures in
    record {
      size = omega (arith, ap length items, length-append old (next ∷ []), c.loop-k.invariant.size);
      first = rw (items, get_or_append_left old (next ∷ []) none 0 some) c.loop-k.invariant.first;
      made = rw items (rooms_more p old next made c.loop-k.invariant.made);
    }
