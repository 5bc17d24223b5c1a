use Rattle.std.proofs.Common.{ℕ, ◌*◌, ◌-◌, ◌<◌, length, refl, ap, arith}
use Rattle.exact_parts.proofs.Widths.{le-times}
use Rattle.search_model.proofs.Totals.{whole_weight-fits}
use Rattle.edge_bound.specs.Units.{place_of}
use Rattle.edge_bound.proofs.CellShares.{row_short}
use Rattle.two_look_bound.specs.Taken.{weighted_sum}
use Rattle.two_look_bound.proofs.Fitting.{skip-within}
use Rattle.two_look_bound.proofs.Weights.{skip_sum, look_cells}
use Rattle.two_look_bound.proofs.taken.skip.Goals as goal

pub weighted-sum-requires-clause-room : goal.weighted-sum-requires-clause-room
weighted-sum-requires-clause-room c = rw (c.requires.before, c.requires.room) (row_short c.args.given.now.sc.now c.recall_sound.ensures (c.args.s - 1) c.args.a)

pub weighted-sum-requires-clause-inside : goal.weighted-sum-requires-clause-inside
weighted-sum-requires-clause-inside c =
    let u = c.args.given.now.twos.now in
    rw c.requires.before (look_cells c.args.given.now.sc.now c.recall_sound.ensures (c.args.s - 1) c.args.a (λ d. place_of u c.args.s d c.args.c < length u.units)
    (λ d here. c.requires.given.twos.inside c.args.s d c.args.c (omega (arith, c.requires.middle.later)) c.requires.middle.last here c.requires.to))

pub weighted-sum-requires-clause-fits : goal.weighted-sum-requires-clause-fits
weighted-sum-requires-clause-fits c =
    let p = c.args.given.now.sc.now in
    let q = c.args.given.now.prefix.now in
    let sound = c.recall_sound.ensures in
    let is = skip_sum p sound q c.args.s c.args.a 0 c.args.c c.args.given.now.twos.now c.args.before.now c.args.shares.now c.requires.to c.requires.middle c.requires.given.twos c.requires.before c.requires.shares in
    let more = le-times (weighted_sum c.args.given.now.twos.now c.args.s c.args.c c.args.before.now c.args.shares.now) p.sweep.denominator (omega (arith, sound.sweep.denominator)) in
    let times = ap (λ (n : ℕ). n * p.sweep.denominator) is in
    omega (arith, more, times, skip-within p sound q c.args.s c.requires.middle c.args.a c.args.c, whole_weight-fits p sound)

pub overflow_mul-result : goal.overflow_mul-result
overflow_mul-result c =
    let p = c.args.given.now.sc.now in
    let q = c.args.given.now.prefix.now in
    let sound = c.recall_sound.ensures in
    let is = skip_sum p sound q c.args.s c.args.a 0 c.args.c c.args.given.now.twos.now c.args.before.now c.args.shares.now c.requires.to c.requires.middle c.requires.given.twos c.requires.before c.requires.shares in
    rw (c.weighted-sum.ensures, c.from.ensures, c.denominator.ensures.value, c.sweep.ensures.value, is) (omega (arith, skip-within p sound q c.args.s c.requires.middle c.args.a c.args.c, whole_weight-fits p sound))

pub returns : goal.returns
returns c =
    let p = c.args.given.now.sc.now in
    let q = c.args.given.now.prefix.now in
    let sound = c.recall_sound.ensures in
    let is = skip_sum p sound q c.args.s c.args.a 0 c.args.c c.args.given.now.twos.now c.args.before.now c.args.shares.now c.requires.to c.requires.middle c.requires.given.twos c.requires.before c.requires.shares in
    rw (c.weighted-sum.ensures, c.from.ensures, c.denominator.ensures.value, c.sweep.ensures.value, is) refl
