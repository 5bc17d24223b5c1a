use Rattle.std.proofs.Common.{◌+◌, ◌*◌, ◌≡◌, arith}
use Rattle.search_model.specs.Edge.{edge_reward_of}
use Rattle.search_model.proofs.Totals.{whole_weight-fits}
use Rattle.edge_bound.proofs.Fitting.{taken-within}
use Rattle.edge_bound.proofs.Through.{taken_of_reward}
use Rattle.two_look_bound.proofs.Fitting.{less_loss}
use Rattle.two_look_bound.proofs.pairs.edge_after.Goals as goal

pub overflow_mul-result : goal.overflow_mul-result
overflow_mul-result c =
    let p = c.args.given.now.sc.now in
    let q = c.args.given.now.prefix.now in
    let sound = c.recall_sound.ensures in
    let most = taken-within p sound q c.args.s c.args.a c.args.b c.requires.middle.later (omega (arith, c.requires.middle.last)) in
    rw (c.requires.less, c.requires.step, less_loss p sound q c.args.s c.requires.middle c.args.a c.args.b) (omega (arith, most, whole_weight-fits p sound))

-- what is taken, and the edge reward, are the reward
parts : (c : goal.After-recall_sound) → let p = c.args.given.now.sc.now in let q = c.args.given.now.prefix.now in
    edge_reward_of p q c.args.s c.args.a c.args.b + c.args.less * c.args.step ≡ c.args.reward
parts c =
    let p = c.args.given.now.sc.now in
    let q = c.args.given.now.prefix.now in
    let sound = c.recall_sound.ensures in
    rw (c.requires.less, c.requires.step, less_loss p sound q c.args.s c.requires.middle c.args.a c.args.b, c.requires.reward)
    (taken_of_reward p q c.args.s c.args.b sound c.requires.middle.later (omega (arith, c.requires.middle.last)) c.args.a)

pub overflow_sub-result : goal.overflow_sub-result
overflow_sub-result c = omega (arith, parts c)

pub returns : goal.returns
returns c = omega (arith, parts c)
