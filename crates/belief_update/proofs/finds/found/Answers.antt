use Rattle.search_model.proofs.LookRows.{own_cell, own_part-le}
use Rattle.belief_update.proofs.finds.found.Goals as goal

pub bounds-masses-from : goal.bounds-masses-from
bounds-masses-from c =
    rw (c.from.ensures, c.requires.cells)
    (own_cell c.args.sc.now c.sweep-sweep.ensures.sound c.args.t c.args.a _ c.sweep-sweep.ensures.value _ c.in-Some.ensures.row)

pub overflow_sub-denominator : goal.overflow_sub-denominator
overflow_sub-denominator c =
    rw (c.denominator.ensures.value, c.sweep-sweep.ensures.value)
    (own_part-le c.args.sc.now c.sweep-sweep.ensures.sound c.args.t c.args.a _ c.sweep-sweep.ensures.value _ c.in-Some.ensures.row)
