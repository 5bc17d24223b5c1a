use Rattle.std.proofs.Common.{ℕ, ◌≡◌, ◌+◌, ◌<◌, length, slice_index, inl, inr, ◌∙◌, arith, get_or-set_other}
use Rattle.std.proofs.Math.ListN.{length-set}
use Rattle.search_grid.specs.Moves.{moves_from}
use Rattle.edge_bound.proofs.Walking.{listed_move}
use Rattle.search_model.proofs.Totals.{whole_weight-fits}
use Rattle.edge_bound.proofs.CellShares.{own_inside}
use Rattle.edge_bound.proofs.Fitting.{found_parts-within}
use Rattle.two_look_bound.specs.Pairs.{edge_and_rest}
use Rattle.two_look_bound.proofs.Walking.{listed_inside, row_more, filled_all}
use Rattle.two_look_bound.proofs.last.last_own.Goals as goal

pub overflow_mul-share : goal.overflow_mul-share
overflow_mul-share c =
    let p = c.args.given.now.sc.now in
    let sound = c.grid.ensures.sound in
    let most = found_parts-within p sound c.args.given.now.prefix.now c.args.s c.args.a c.requires.period.later c.requires.period.last in
    rw (c.found_by.ensures, c.requires.parts) (omega (arith, most, whole_weight-fits p sound))

pub place-place-requires-clause-inside : goal.place-place-requires-clause-inside
place-place-requires-clause-inside c =
    let own = own_inside c.args.given.now.sc.now c.args.a c.grid.ensures.sound c.requires.own in
    c.requires.given.units.inside c.args.s c.args.a 0 (omega (arith, c.requires.period.later)) c.requires.period.last own (omega (arith, c.requires.from))

pub bounds-rewards-from : goal.bounds-rewards-from
bounds-rewards-from c =
    let are : c.moves-moves.result.now ≡ moves_from c.args.given.now.sc.now.moves c.args.a = rw (← c.grid.ensures.value) c.moves-moves.ensures.value in
    rw (c.from.ensures, c.requires.width) (listed_inside c.args.given.now.sc.now c.grid.ensures.sound c.args.a c.loop-b.b-index c.moves-moves.result.now c.requires.from are c.loop-b-test.true)

pub last_edge-sum-requires-clause-reward : goal.last_edge-sum-requires-clause-reward
last_edge-sum-requires-clause-reward c =
    let are : c.moves-moves.result.now ≡ moves_from c.args.given.now.sc.now.moves c.args.a = rw (← c.grid.ensures.value) c.moves-moves.ensures.value in
    rw c.from.ensures (c.requires.rewards _ (listed_move c.args.given.now.sc.now c.args.a c.loop-b.b-index c.moves-moves.result.now are c.loop-b-test.true))

pub taken_own-loss-requires-clause-to : goal.taken_own-loss-requires-clause-to
taken_own-loss-requires-clause-to c =
    let are : c.moves-moves.result.now ≡ moves_from c.args.given.now.sc.now.moves c.args.a = rw (← c.grid.ensures.value) c.moves-moves.ensures.value in
    listed_inside c.args.given.now.sc.now c.grid.ensures.sound c.args.a c.loop-b.b-index c.moves-moves.result.now c.requires.from are c.loop-b-test.true

pub loop-b-preserved : goal.loop-b-preserved
loop-b-preserved c =
    let are : c.moves-moves.result.now ≡ moves_from c.args.given.now.sc.now.moves c.args.a = rw (← c.grid.ensures.value) c.moves-moves.ensures.value in
    let p = c.args.given.now.sc.now in
    let moves = c.moves-moves.result.now in
    let b = slice_index moves c.loop-b.b-index in
    let there = listed_inside p c.grid.ensures.sound c.args.a c.loop-b.b-index moves c.requires.from are c.loop-b-test.true in
    let inside : c.args.here + b < length c.loop-b.earlier = omega (arith, there, c.requires.here, c.loop-b.invariant.size) in
    let f : ℕ → ℕ = edge_and_rest p c.args.given.now.prefix.now c.args.s c.args.a in
    rw c.put_at.ensures (record {
      each = row_more f c.loop-b.earlier moves c.args.here c.loop-b.b-index _ inside c.last_edge-sum.ensures c.loop-b.invariant.each;
      kept = λ i outside. get_or-set_other c.loop-b.earlier (c.args.here + b) i _ 0 (λ e. elim outside [ inl before ↦ omega (arith, before, e) | inr behind ↦ omega (arith, behind, e, there) ]) ∙ c.loop-b.invariant.kept i outside;
      size = length-set _ _ _ ∙ c.loop-b.invariant.size;
    })

pub returns-clause-each : goal.returns-clause-each
returns-clause-each c =
    let are : c.moves-moves.result.now ≡ moves_from c.args.given.now.sc.now.moves c.args.a = rw (← c.grid.ensures.value) c.moves-moves.ensures.value in
    filled_all (λ d. slice_index c.loop-b.earlier (c.args.here + d) ≡ edge_and_rest c.args.given.now.sc.now c.args.given.now.prefix.now c.args.s c.args.a d)
    c.moves-moves.result.now (moves_from c.args.given.now.sc.now.moves c.args.a) c.loop-b.b-index are c.loop-b-test.false c.loop-b.invariant.each

pub put_at-requires : goal.put_at-requires
put_at-requires c =
    let are : c.moves-moves.result.now ≡ moves_from c.args.given.now.sc.now.moves c.args.a = rw (← c.grid.ensures.value) c.moves-moves.ensures.value in
    let there = listed_inside c.args.given.now.sc.now c.grid.ensures.sound c.args.a c.loop-b.b-index c.moves-moves.result.now c.requires.from are c.loop-b-test.true in
    omega (arith, there, c.requires.here, c.loop-b.invariant.size)
