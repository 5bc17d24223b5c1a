use Rattle.std.proofs.Common.{◌-◌, ◌*◌, ◌≡◌, arith}
use Rattle.search_model.proofs.RewardSizes.{weights-fit}
use Rattle.search_model.proofs.Totals.{whole_weight-fits}
use Rattle.two_look_bound.specs.Pairs.{two_and_rest}
use Rattle.two_look_bound.specs.Taken.{joint_of}
use Rattle.two_look_bound.proofs.Fitting.{pair_sum-within, two-below, joint-within}
use Rattle.two_look_bound.proofs.OwnCells.{joint_owned}
use Rattle.two_look_bound.proofs.own.better_own.Goals as goal

pub returns-then-gain-best : goal.returns-then-gain-best
returns-then-gain-best c =
    omega (arith, two-below c.args.given.now.sc.now c.recall_sound.ensures c.args.given.now.prefix.now c.args.s c.args.a c.args.b c.args.c c.requires.middle, c.requires.gain, c.if-gain-best.true)

pub gain_after-requires-clause-least : goal.gain_after-requires-clause-least
gain_after-requires-clause-least c = rw c.requires.gain (omega arith)

pub gain_after-requires-clause-most : goal.gain_after-requires-clause-most
gain_after-requires-clause-most c =
    let p = c.args.given.now.sc.now in
    let s = c.args.s in
    let most = pair_sum-within p c.recall_sound.ensures c.args.given.now.prefix.now s c.args.b c.args.c (omega (arith, c.requires.middle.later)) c.requires.middle.last in
    rw c.requires.gain (omega (arith, most, weights-fit p c.recall_sound.ensures (p.horizon - s) (omega arith)))

pub returns : goal.returns
returns c =
    let sum : c.gain_after.result ≡ two_and_rest c.args.given.now.sc.now c.args.given.now.prefix.now c.args.s c.args.a c.args.b c.args.c = omega (arith, c.gain_after.ensures, c.requires.gain) in
    rw (c.max.ensures, sum) (omega arith)

pub bounds-row-from : goal.bounds-row-from
bounds-row-from c = rw c.from.ensures (omega (arith, c.requires.to, c.requires.width))

-- what all three would find
all_is : (c : goal.After-from-2) → c.args.less * c.from-2.result ≡ joint_of c.args.given.now.sc.now c.args.given.now.prefix.now c.args.s c.args.a c.args.b c.args.c
all_is c =
    rw (c.from-2.ensures, c.from.ensures, c.requires.row c.args.c c.requires.to, c.requires.less) (joint_owned c.args.given.now.sc.now c.recall_sound.ensures c.args.given.now.prefix.now c.args.s c.args.a c.args.b c.args.c c.requires.own)

pub overflow_mul-all : goal.overflow_mul-all
overflow_mul-all c =
    let p = c.args.given.now.sc.now in
    let sound = c.recall_sound.ensures in
    rw (all_is c) (omega (arith, joint-within p sound c.args.given.now.prefix.now c.args.s c.requires.middle c.args.a c.args.c c.args.b, whole_weight-fits p sound))

pub gain_after-requires-clause-all : goal.gain_after-requires-clause-all
gain_after-requires-clause-all c = all_is c
