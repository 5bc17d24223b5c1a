use Rattle.std.proofs.Common.{◌+◌, ◌<◌, length, arith}
use Rattle.search_model.proofs.Totals.{whole_weight-fits}
use Rattle.edge_bound.specs.Units.{place_of}
use Rattle.edge_bound.proofs.CellShares.{row_short}
use Rattle.two_look_bound.proofs.Fitting.{joint-within}
use Rattle.two_look_bound.proofs.Weights.{joint_sum, look_cells}
use Rattle.two_look_bound.proofs.taken.joint.Goals as goal

pub weighted-requires-clause-room : goal.weighted-requires-clause-room
weighted-requires-clause-room c = rw (c.requires.row, c.requires.room) (row_short c.args.given.now.sc.now c.recall_sound.ensures c.args.s c.args.b)

pub weighted-requires-clause-inside : goal.weighted-requires-clause-inside
weighted-requires-clause-inside c =
    let u = c.args.given.now.units.now in
    rw c.requires.row (look_cells c.args.given.now.sc.now c.recall_sound.ensures c.args.s c.args.b (λ d. place_of u (c.args.s + 1) d c.args.c < length u.units)
    (λ d here. c.requires.given.units.inside (c.args.s + 1) d c.args.c (omega (arith, c.requires.middle.later)) c.requires.middle.last here c.requires.to))

pub weighted-requires-clause-fits : goal.weighted-requires-clause-fits
weighted-requires-clause-fits c =
    let p = c.args.given.now.sc.now in
    let q = c.args.given.now.prefix.now in
    let sound = c.recall_sound.ensures in
    let is = joint_sum p sound q c.args.s c.args.a c.args.b c.args.c c.args.given.now.units.now c.args.row.now c.args.less.now c.requires.to c.requires.middle c.requires.given.units c.requires.row c.requires.less in
    omega (arith, is, joint-within p sound q c.args.s c.requires.middle c.args.a c.args.c c.args.b, whole_weight-fits p sound)

pub returns : goal.returns
returns c =
    rw c.weighted.ensures (joint_sum c.args.given.now.sc.now c.recall_sound.ensures c.args.given.now.prefix.now c.args.s c.args.a c.args.b c.args.c c.args.given.now.units.now c.args.row.now c.args.less.now c.requires.to c.requires.middle c.requires.given.units c.requires.row c.requires.less)
