use Rattle.std.proofs.Common.{ℕ, ◌<◌, arith, slice_index}
use Rattle.std.proofs.lemmas.List.Elements.{All-get_or}
use Rattle.exact_parts.proofs.Widths.{le-times}
use Rattle.belief_update.specs.Found.{found_of}
use Rattle.mean_bound.proofs.rewards.fill_some.Goals as goal

pub found-requires-clause-fits : goal.found-requires-clause-fits
found-requires-clause-fits c =
    let a : ℕ = slice_index c.args.some.now c.loop-a.a-index in
    let here : a < c.args.sc.now.positions = All-get_or (λ b. b < c.args.sc.now.positions) c.args.some.now c.loop-a.a-index 0 c.loop-a-test.true c.requires.inside in
    omega (arith, c.requires.fits a here, le-times (found_of c.args.sc.now c.args.t a (slice_index c.args.masses.now)) c.args.parts c.requires.parts)
