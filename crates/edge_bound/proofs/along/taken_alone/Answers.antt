use Rattle.std.proofs.Common.{arith}
use Rattle.search_model.proofs.Totals.{whole_weight-fits}
use Rattle.edge_bound.proofs.Fitting.{found_parts-within}
use Rattle.edge_bound.proofs.CellShares.{own_inside}
use Rattle.edge_bound.proofs.along.taken_alone.Goals as goal

pub overflow_mul-share : goal.overflow_mul-share
overflow_mul-share c =
    let p = c.args.sc.now in
    let sound = c.recall_sound.ensures in
    let most = found_parts-within p sound c.args.prefix.now c.args.t c.args.a c.requires.period.later c.requires.period.last in
    rw (c.found_by.ensures, c.requires.parts) (omega (arith, most, whole_weight-fits p sound))

pub place-place-requires-clause-inside : goal.place-place-requires-clause-inside
place-place-requires-clause-inside c =
    let own = own_inside c.args.sc.now c.args.a c.recall_sound.ensures c.requires.own in
    c.requires.units.inside c.args.t c.args.a 0 (omega (arith, c.requires.period.later)) c.requires.period.last own (omega (arith, c.requires.from))
