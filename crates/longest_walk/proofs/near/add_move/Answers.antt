use Rattle.longest_walk.proofs.NearSteps.{joined_push}
use Rattle.longest_walk.proofs.near.add_move.Goals as goal

pub returns-in_ok-push-clause-joined : goal.returns-in_ok-push-clause-joined
returns-in_ok-push-clause-joined c = joined_push c.args.order.now.items c.push.new.self.items c.args.v c.in_ok-push.ensures.items
