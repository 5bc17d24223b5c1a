use Rattle.std.proofs.Common.{◌≡◌, ◌-◌, ◌<◌, length, slice_index, refl, ap, ◌∙◌, arith}
use Rattle.drift_chain.specs.DriftRows.{DriftRows, row_of}
use Rattle.edge_bound.proofs.UnitTable.{part-within}
use Rattle.edge_bound.proofs.units.go_once.Goals as goal

pub spread-requires-clause-fits : goal.spread-requires-clause-fits
spread-requires-clause-fits c d inside =
    let p = c.args.sc.now in
    let sound = c.drift.ensures.sound in
    let there : d < length c.args.gone.now = omega (arith, inside, c.fill.ensures.len) in
    let zero : slice_index c.fill.new.self d ≡ 0 = c.fill.ensures.clones d 0 there refl in
    let row : c.row.result.now ≡ row_of p.drift (c.args.t - 1) c.args.c = c.row.ensures.value ∙ ap (λ (drift : DriftRows). row_of drift (c.args.t - 1) c.args.c) c.drift.ensures.value in
    rw (zero, row) (omega (arith, part-within p sound (c.args.t - 1) c.args.c d c.requires.from (omega (arith, there, c.requires.room)), sound.drift.denominator.1))
