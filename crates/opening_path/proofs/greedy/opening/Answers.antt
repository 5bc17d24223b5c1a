use Rattle.belief_update.proofs.PrefixValues.{past_whole}
use Rattle.opening_path.proofs.greedy.opening.Goals as goal

pub value_by-value-requires : goal.value_by-value-requires
value_by-value-requires c = past_whole c.args.sc.now c.loop-t.path c.loop-t.here c.loop-t.invariant.belief
