use Rattle.belief_update.proofs.PrefixValues.{past_after, near_after}
use Rattle.belief_update.proofs.onward.Onward.go_to.Goals as goal

pub go_on-requires-clause-after : goal.go_on-requires-clause-after
go_on-requires-clause-after c = past_after c.args.sc.now c.args.prefix.now c.follow.new.belief c.follow.ensures

pub go_on-requires-clause-near : goal.go_on-requires-clause-near
go_on-requires-clause-near c = near_after c.args.sc.now c.args.prefix.now c.follow.new.belief c.follow.ensures
