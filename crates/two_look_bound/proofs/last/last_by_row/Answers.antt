use Rattle.std.proofs.Common.{arith}
use Rattle.edge_bound.proofs.Fitting.{found_parts-within}
use Rattle.two_look_bound.proofs.last.last_by_row.Goals as goal

pub fill_shares-requires-clause-fits : goal.fill_shares-requires-clause-fits
fill_shares-requires-clause-fits c =
    rw c.requires.parts (found_parts-within c.args.given.now.sc.now c.recall_sound.ensures c.args.given.now.prefix.now c.args.s c.args.a c.requires.period.later c.requires.period.last)

pub last_by_shares-requires-clause-shares : goal.last_by_shares-requires-clause-shares
last_by_shares-requires-clause-shares c = rw c.requires.parts at c.fill_shares.ensures.each

pub split_at_mut-shares-requires : goal.split_at_mut-shares-requires
split_at_mut-shares-requires c = omega (arith, c.from.ensures, c.cells.ensures.value, c.requires.room)
