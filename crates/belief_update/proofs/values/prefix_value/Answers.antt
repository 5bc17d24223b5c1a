use Rattle.belief_update.proofs.PrefixValues.{past_after}
use Rattle.belief_update.proofs.values.prefix_value.Goals as goal

pub value_by-requires : goal.value_by-requires
value_by-requires c = past_after c.args.sc.now c.args.prefix.now c.follow.new.belief c.follow.ensures
