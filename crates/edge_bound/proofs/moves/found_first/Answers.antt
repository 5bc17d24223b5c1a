use Rattle.std.proofs.Common.{◌+◌, length, arith}
use Rattle.edge_bound.proofs.Discounts.{reward_is}
use Rattle.edge_bound.proofs.moves.found_first.Goals as goal

pub returns : goal.returns
returns c =
    let q = c.args.prefix.now in
    rw (c.found_by.ensures, c.len.ensures.value) (reward_is c.args.sc.now c.recall_sound.ensures q (length q + 1) c.args.b (omega arith) (omega (arith, c.requires.short)))
