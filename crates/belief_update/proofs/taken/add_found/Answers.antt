use Rattle.std.proofs.Common.{arith}
use Rattle.search_model.proofs.LookRows.{own_cell, own_part-le}
use Rattle.belief_update.proofs.OwnLooks.{own_factors, own_factor_here}
use Rattle.belief_update.proofs.taken.add_found.Goals as goal

pub own_part-requires : goal.own_part-requires
own_part-requires c = rw c.sweep.ensures.value (omega (arith, c.requires.position, c.sweep.ensures.sound.sweep_positions))

pub add_own-requires-clause-cell : goal.add_own-requires-clause-cell
add_own-requires-clause-cell c = own_cell c.args.sc.now c.sweep.ensures.sound c.args.belief.now.period c.args.a _ c.sweep.ensures.value _ c.in-Some.ensures.row

pub add_own-requires-clause-part : goal.add_own-requires-clause-part
add_own-requires-clause-part c = own_part-le c.args.sc.now c.sweep.ensures.sound c.args.belief.now.period c.args.a _ c.sweep.ensures.value _ c.in-Some.ensures.row

pub add_own-requires-clause-fits : goal.add_own-requires-clause-fits
add_own-requires-clause-fits c =
    let p = c.args.sc.now in
    let here = own_cell p c.sweep.ensures.sound c.args.belief.now.period c.args.a _ c.sweep.ensures.value _ c.in-Some.ensures.row in
    let fits = c.requires.fits c.args.a here in
    rw (← own_factors p c.sweep.result.now c.args.belief.now.period c.args.a c.in-Some.part c.sweep.ensures.value c.in-Some.ensures.row c.args.a, own_factor_here p.sweep.denominator c.args.a c.in-Some.part) at fits

pub returns-in-Some : goal.returns-in-Some
returns-in-Some c = record {
  each = λ x lt. rw (← own_factors c.args.sc.now c.sweep.result.now c.args.belief.now.period c.args.a c.in-Some.part c.sweep.ensures.value c.in-Some.ensures.row x) (c.add_own.ensures.each x lt);
}
