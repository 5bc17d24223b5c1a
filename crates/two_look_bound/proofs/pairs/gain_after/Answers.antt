use Rattle.std.proofs.Common.{◌≡◌, ◌+◌, arith}
use Rattle.search_model.specs.Edge.{edge_reward_of}
use Rattle.search_model.proofs.Totals.{whole_weight-fits}
use Rattle.two_look_bound.specs.Pairs.{two_reward_of}
use Rattle.two_look_bound.proofs.TwoLooks.{two_looks}
use Rattle.two_look_bound.proofs.Fitting.{joint-within}
use Rattle.two_look_bound.proofs.pairs.gain_after.Goals as goal

-- the reward after two looks and what the first and the last of the three would find are the edge reward and what all three would
parts : (c : goal.After-recall_sound) → let p = c.args.given.now.sc.now in let q = c.args.given.now.prefix.now in
    two_reward_of p q (c.args.s + 1) c.args.a c.args.b c.args.c + c.args.outer ≡ edge_reward_of p q (c.args.s + 1) c.args.b c.args.c + c.args.all
parts c = rw (c.requires.outer, c.requires.all) (two_looks c.args.given.now.sc.now c.recall_sound.ensures c.args.given.now.prefix.now c.args.s c.args.a c.requires.middle c.args.b c.args.c)

pub overflow_add-result : goal.overflow_add-result
overflow_add-result c =
    let p = c.args.given.now.sc.now in
    let sound = c.recall_sound.ensures in
    omega (arith, c.requires.all, joint-within p sound c.args.given.now.prefix.now c.args.s c.requires.middle c.args.a c.args.c c.args.b, whole_weight-fits p sound, c.requires.most)

pub overflow_sub-result : goal.overflow_sub-result
overflow_sub-result c = omega (arith, parts c, c.requires.least)

pub returns : goal.returns
returns c = omega (arith, parts c, c.requires.least)
