use Rattle.std.proofs.Common.{◌≡◌, ◌∷◌, [], length, ◌∙◌}
use Rattle.longest_walk.specs.Near.{IsJoined}
use Rattle.longest_walk.proofs.NearSteps.{level-first}
use Rattle.longest_walk.proofs.near.first_row.Goals as goal

pub returns-clause-level : goal.returns-clause-level
returns-clause-level c =
    let joined : IsJoined [] (c.args.a ∷ []) c.add_move.new.order.items = rw c.in_ok-order.ensures.items at c.in_ok-add_move.ensures.joined in
    let long : c.len.result ≡ length c.add_move.new.order.items = c.len.ensures ∙ c.add_move.new.order.ok.0 in
    let one : c.push.new.self.items ≡ length c.add_move.new.order.items ∷ [] = rw (c.in_ok-counts.ensures.items, long) at c.in_ok-push.ensures.items in
    level-first c.args.grid.now c.args.a c.add_move.new.order.items c.push.new.self.items joined one
