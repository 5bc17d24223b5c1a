use Rattle.std.proofs.Common.{arith}
use Rattle.search_model.proofs.LegalLemmas.{last_within}
use Rattle.tangent_bound.proofs.gains.fill_after.Goals as goal

pub fill_rows-requires-clause-from : goal.fill_rows-requires-clause-from
fill_rows-requires-clause-from c =
    let p = c.args.sc.now in
    let sound = c.last_after-from.ensures.sound in
    let here = last_within p.moves sound.grid p.start (omega (arith, sound.start, sound.grid_positions)) c.args.front.now c.requires.legal.follows in
    rw c.last_after-from.ensures.value (omega (arith, here, sound.grid_positions))
