use Rattle.std.proofs.Common.{arith}
use Rattle.search_model.proofs.LookRows.{own_cell, own_part-le}
use Rattle.belief_update.proofs.OwnLooks.{own_factors}
use Rattle.belief_update.proofs.taken.find.Goals as goal

pub own_part-requires : goal.own_part-requires
own_part-requires c = rw c.sweep.ensures.value (omega (arith, c.requires.position, c.sweep.ensures.sound.sweep_positions))

pub find_own-requires-clause-cell : goal.find_own-requires-clause-cell
find_own-requires-clause-cell c = own_cell c.args.sc.now c.sweep.ensures.sound c.args.ahead.now.period c.args.a _ c.sweep.ensures.value _ c.in-Some.ensures.row

pub find_own-requires-clause-part : goal.find_own-requires-clause-part
find_own-requires-clause-part c = own_part-le c.args.sc.now c.sweep.ensures.sound c.args.ahead.now.period c.args.a _ c.sweep.ensures.value _ c.in-Some.ensures.row

pub returns-in-Some : goal.returns-in-Some
returns-in-Some c = record {
  each = λ x lt. rw (← own_factors c.args.sc.now c.sweep.result.now c.args.ahead.now.period c.args.a c.in-Some.part c.sweep.ensures.value c.in-Some.ensures.row x) (c.find_own.ensures.each x lt);
}
