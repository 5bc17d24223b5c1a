use Rattle.std.proofs.Common.{arith}
use Rattle.search_model.proofs.PlainSteps.{positions_follow}
use Rattle.belief_update.proofs.values.follow.Goals as goal

pub look_through-requires-clause-positions : goal.look_through-requires-clause-positions
look_through-requires-clause-positions c =
    let p = c.args.sc.now in
    let sound = c.recall_sound.ensures in
    rw c.cells.ensures.value (positions_follow p sound p.start (omega (arith, sound.start, sound.grid_positions)) c.args.prefix.now c.requires.legal.follows)
