use Rattle.std.proofs.Common.{ℕ, ◌≡◌, ◌<◌, length, slice_index, refl, ◌∙◌, arith}
use Rattle.std.proofs.Math.ListN.{length-set}
use Rattle.std.proofs.lemmas.List.Elements.{Contains-get_or}
use Rattle.search_model.proofs.Totals.{whole_weight-fits}
use Rattle.edge_bound.proofs.CellShares.{own_inside}
use Rattle.longest_walk.proofs.NearSteps.{near_within}
use Rattle.two_look_bound.specs.Taken.{skip_of}
use Rattle.two_look_bound.proofs.OwnCells.{share_whole-within}
use Rattle.two_look_bound.proofs.Walking.{filled_all, place_more}
use Rattle.two_look_bound.proofs.own.fill_skips_own.Goals as goal

pub within-two-requires-clause-position : goal.within-two-requires-clause-position
within-two-requires-clause-position c = rw c.grid.ensures.value (omega (arith, c.requires.from, c.recall_sound.ensures.grid_positions))

pub within-two-requires-clause-made : goal.within-two-requires-clause-made
within-two-requires-clause-made c =
    rw c.grid.ensures.value (c.args.given.now.sc.now.horizon, c.requires.given.near, omega (arith, c.requires.middle.later, c.requires.middle.last))

pub skip_own-requires-clause-to : goal.skip_own-requires-clause-to
skip_own-requires-clause-to c =
    let p = c.args.given.now.sc.now in
    let sound = c.recall_sound.ensures in
    let near = rw c.grid.ensures.value at ((c.within-two.ensures _).0 (Contains-get_or c.within-two.result.now c.loop-c.c-index 0 c.loop-c-test.true)) in
    omega (arith, near_within p.moves sound.grid 2 c.args.a _ (omega (arith, c.requires.from, sound.grid_positions)) near, sound.grid_positions)

pub returns-clause-each : goal.returns-clause-each
returns-clause-each c d near =
    let p = c.args.given.now.sc.now in
    let listed = (c.within-two.ensures d).1 (rw c.grid.ensures.value near) in
    filled_all (λ e. slice_index c.loop-c.skips e ≡ skip_of p c.args.given.now.prefix.now c.args.s c.args.a e) c.within-two.result.now c.within-two.result.now c.loop-c.c-index refl c.loop-c-test.false c.loop-c.invariant.each d listed

pub bounds-skips-from : goal.bounds-skips-from
bounds-skips-from c =
    let p = c.args.given.now.sc.now in
    let sound = c.recall_sound.ensures in
    let near = rw c.grid.ensures.value at ((c.within-two.ensures _).0 (Contains-get_or c.within-two.result.now c.loop-c.c-index 0 c.loop-c-test.true)) in
    let there = near_within p.moves sound.grid 2 c.args.a _ (omega (arith, c.requires.from, sound.grid_positions)) near in
    rw c.from-in-loop-c.ensures (omega (arith, there, sound.grid_positions, c.requires.size, c.loop-c.invariant.size))

pub loop-c-preserved : goal.loop-c-preserved
loop-c-preserved c =
    let p = c.args.given.now.sc.now in
    let sound = c.recall_sound.ensures in
    let near = rw c.grid.ensures.value at ((c.within-two.ensures _).0 (Contains-get_or c.within-two.result.now c.loop-c.c-index 0 c.loop-c-test.true)) in
    let there = near_within p.moves sound.grid 2 c.args.a _ (omega (arith, c.requires.from, sound.grid_positions)) near in
    let two = c.within-two.result.now in
    let inside : slice_index two c.loop-c.c-index < length c.loop-c.skips = omega (arith, there, sound.grid_positions, c.requires.size, c.loop-c.invariant.size) in
    let f : ℕ → ℕ = λ d. skip_of p c.args.given.now.prefix.now c.args.s c.args.a d in
    rw c.from-in-loop-c.ensures (record {
      each = place_more f c.loop-c.skips two c.loop-c.c-index _ inside c.skip_own.ensures c.loop-c.invariant.each;
      size = length-set _ _ _ ∙ c.loop-c.invariant.size;
    })

pub overflow_mul-scaled : goal.overflow_mul-scaled
overflow_mul-scaled c =
    let p = c.args.given.now.sc.now in
    let sound = c.recall_sound.ensures in
    rw (c.requires.share, c.from.ensures, c.denominator.ensures.value, c.sweep.ensures.value) (omega (arith, share_whole-within p sound c.args.given.now.prefix.now c.args.s c.args.a c.requires.middle, whole_weight-fits p sound))

pub place-place-requires-clause-inside : goal.place-place-requires-clause-inside
place-place-requires-clause-inside c =
    let own = own_inside c.args.given.now.sc.now c.args.a c.recall_sound.ensures c.requires.own in
    c.requires.given.twos.inside c.args.s c.args.a 0 (omega (arith, c.requires.middle.later)) c.requires.middle.last own (omega (arith, c.requires.from))

pub skip_own-requires-clause-scaled : goal.skip_own-requires-clause-scaled
skip_own-requires-clause-scaled c = rw (c.requires.share, c.from.ensures, c.denominator.ensures.value, c.sweep.ensures.value) refl
