use Rattle.std.proofs.Common.{take, ◌∙◌}
use Rattle.std.proofs.lemmas.List.{take_more}
use Rattle.longest_walk.proofs.NearSteps.{joined_more}
use Rattle.longest_walk.proofs.near.add_moves.Goals as goal

pub loop-v-preserved : goal.loop-v-preserved
loop-v-preserved c =
    let now = take c.loop-v.v-index c.args.moves.now in
    let more = take_more c.args.moves.now c.loop-v.v-index 0 c.loop-v-test.true in
    record {
      joined = rw more (joined_more c.args.order.now.items now c.loop-v.order.items c.add_move.new.order.items _ c.loop-v.invariant.joined c.in_ok-add_move.ensures.joined);
      marked = c.in_ok-add_move.ensures.marked;
      size = c.add_move.ensures.size ∙ c.loop-v.invariant.size;
    }
