use Rattle.edge_bound.proofs.Walking.{gain_there}
use Rattle.edge_bound.proofs.best.sum_through.Goals as goal

pub gain_less-requires-clause-gain : goal.gain_less-requires-clause-gain
gain_less-requires-clause-gain c =
    rw c.from.ensures (gain_there c.args.sc.now c.args.prefix.now c.args.gains.now c.args.t c.args.a c.args.b c.requires.period.later c.requires.near c.requires.step c.requires.gains)
