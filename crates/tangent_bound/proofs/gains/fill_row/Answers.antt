use Rattle.std.proofs.Common.{ℕ, ◌*◌, ◌-◌, ◌+◌, ◌<◌, ◌≡◌, length, slice_index, ◌∙◌, arith}
use Rattle.std.proofs.lemmas.List.Elements.{All-get_or}
use Rattle.search_model.specs.Bounds.{gain_of}
use Rattle.backward_mass.proofs.Tables.{place_within}
use Rattle.longest_walk.proofs.Places.{place_more}
use Rattle.tangent_bound.proofs.RowSteps.{earlier_stays}
use Rattle.tangent_bound.proofs.gains.fill_row.Goals as goal

-- the place of the next gain is in the table
inside : (c : goal.After-from-in-loop-a) → (c.args.t - 1) * c.from.result + slice_index c.args.some.now c.loop-a.a-index < length c.loop-a.gains
inside c =
    let p = c.args.sc.now in
    let positions : c.from.result ≡ p.positions = omega (arith, c.from.ensures, c.positions.ensures.value) in
    let here : slice_index c.args.some.now c.loop-a.a-index < p.positions = All-get_or (λ a. a < p.positions) c.args.some.now c.loop-a.a-index 0 c.loop-a-test.true c.requires.inside in
    rw positions (omega (arith, place_within p.horizon p.positions c.args.t (slice_index c.args.some.now c.loop-a.a-index) c.requires.first c.requires.last here, c.loop-a.auto.gains, c.requires.size))

pub bounds-gains-here : goal.bounds-gains-here
bounds-gains-here c = rw c.from-in-loop-a.ensures (inside c)

pub loop-a-preserved : goal.loop-a-preserved
loop-a-preserved c =
    let here = (c.args.t - 1) * c.from.result in
    let a : ℕ = slice_index c.args.some.now c.loop-a.a-index in
    rw c.from-in-loop-a.ensures (record {
      row = λ path met. place_more (gain_of c.args.sc.now c.args.rate path c.args.t) c.args.some.now c.loop-a.gains here c.loop-a.a-index c.gain.result (inside c) (c.gain.ensures path met) (c.loop-a.invariant.row path met);
      earlier = λ i before. earlier_stays c.loop-a.gains (here + a) c.gain.result i (omega (arith, before)) ∙ c.loop-a.invariant.earlier i before;
    })
