use Rattle.std.proofs.Common.{arith}
use Rattle.edge_bound.proofs.Through.{taken_of_reward}
use Rattle.two_look_bound.proofs.Walking.{none_behind}
use Rattle.two_look_bound.proofs.last.last_edge.Goals as goal

pub overflow_sub-result : goal.overflow_sub-result
overflow_sub-result c =
    let parts = taken_of_reward c.args.given.now.sc.now c.args.given.now.prefix.now c.args.s c.args.b c.recall_sound.ensures c.requires.period.later c.requires.period.last c.args.a in
    rw (c.requires.reward, c.requires.loss) (omega (arith, parts))

pub returns : goal.returns
returns c =
    let p = c.args.given.now.sc.now in
    let q = c.args.given.now.prefix.now in
    let parts = taken_of_reward p q c.args.s c.args.b c.recall_sound.ensures c.requires.period.later c.requires.period.last c.args.a in
    let none = none_behind p q c.args.s c.args.a c.args.b c.requires.last in
    rw (c.requires.reward, c.requires.loss) (omega (arith, parts, none))
