use Rattle.std.proofs.Common.{◌≡◌, ◌+◌, arith}
use Rattle.edge_bound.specs.Moves.{edge_and_later}
use Rattle.edge_bound.proofs.Through.{taken_of_reward}
use Rattle.edge_bound.proofs.best.gain_less.Goals as goal

-- the reward without the look before is the one after it and what that look takes
parts : (c : goal.After-recall_sound) → c.args.gain ≡ edge_and_later c.args.sc.now c.args.prefix.now c.args.t c.args.a c.args.b + c.args.less
parts c =
    let is = taken_of_reward c.args.sc.now c.args.prefix.now c.args.t c.args.b c.recall_sound.ensures c.requires.period.later c.requires.period.last c.args.a in
    rw (c.requires.gain, c.requires.less) (omega (arith, is))

pub overflow_sub-result : goal.overflow_sub-result
overflow_sub-result c = omega (arith, parts c)

pub returns : goal.returns
returns c = omega (arith, parts c)
