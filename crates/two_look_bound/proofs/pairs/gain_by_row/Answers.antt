use Rattle.std.proofs.Common.{◌-◌, arith}
use Rattle.search_model.proofs.RewardSizes.{weights-fit}
use Rattle.two_look_bound.proofs.Fitting.{pair_sum-within}
use Rattle.two_look_bound.proofs.pairs.gain_by_row.Goals as goal

pub gain_after-requires-clause-least : goal.gain_after-requires-clause-least
gain_after-requires-clause-least c = rw c.requires.gain (omega arith)

pub gain_after-requires-clause-most : goal.gain_after-requires-clause-most
gain_after-requires-clause-most c =
    let p = c.args.given.now.sc.now in
    let s = c.args.s in
    let most = pair_sum-within p c.recall_sound.ensures c.args.given.now.prefix.now s c.args.b c.args.c (omega (arith, c.requires.middle.later)) c.requires.middle.last in
    rw c.requires.gain (omega (arith, most, weights-fit p c.recall_sound.ensures (p.horizon - s) (omega arith)))

pub returns : goal.returns
returns c = omega (arith, c.gain_after.ensures, c.requires.gain)
