use Rattle.std.proofs.Common.{arith}
use Rattle.search_model.proofs.PlainSteps.{positions_follow}
use Rattle.search_model.proofs.Totals.{nothing_is_cut_off}
use Rattle.search_model.proofs.plain_value.value.Goals as goal

pub missed-requires : goal.missed-requires
missed-requires c =
    let p = c.args.sc.now in
    let sound = c.weight.ensures.sound in
    rw c.cells.ensures.value (positions_follow p sound p.start (omega (arith, sound.start, sound.grid_positions)) c.args.prefix.now c.requires.follows)

pub overflow_sub-result : goal.overflow_sub-result
overflow_sub-result c = rw (c.missed.ensures, c.weight.ensures.value) (nothing_is_cut_off c.args.sc.now c.cells.result.now c.weight.ensures.sound)
