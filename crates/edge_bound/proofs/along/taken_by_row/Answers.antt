use Rattle.edge_bound.proofs.Fitting.{found_parts-within}
use Rattle.edge_bound.proofs.along.taken_by_row.Goals as goal

pub fill_shares-requires-clause-fits : goal.fill_shares-requires-clause-fits
fill_shares-requires-clause-fits c =
    rw c.requires.parts (found_parts-within c.args.sc.now c.recall_sound.ensures c.args.prefix.now c.args.t c.args.a c.requires.period.later c.requires.period.last)
