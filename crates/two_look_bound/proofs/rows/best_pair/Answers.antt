use Rattle.std.proofs.Common.{◌≡◌, ◌+◌, ◌*◌, ℕ, length, slice_index, inr, refl, sym, ◌∙◌, arith, Contains}
use Rattle.search_grid.specs.Moves.{moves_from}
use Rattle.longest_walk.proofs.RowSteps.{best_more, best_all}
use Rattle.two_look_bound.specs.Pairs.{pair_sum}
use Rattle.two_look_bound.proofs.Walking.{listed_inside, pair_inside, seconds_greatest, greatest_same}
use Rattle.two_look_bound.proofs.rows.best_pair.Goals as goal

pub sum_at-sum-requires : goal.sum_at-sum-requires
sum_at-sum-requires c =
    let are : c.moves-moves.result.now ≡ moves_from c.args.given.now.sc.now.moves c.args.a = rw (← c.grid.ensures.value) c.moves-moves.ensures.value in
    let p = c.args.given.now.sc.now in
    let b = listed_inside p c.grid.ensures.sound c.args.a c.loop-b.b-index c.moves-moves.result.now c.requires.from are c.loop-b-test.true in
    let here : c.from.result * c.from-2.result ≡ c.args.a * c.args.given.now.sc.now.positions = rw (c.from.ensures, c.from-2.ensures, c.positions.ensures.value) refl in
    rw here (omega (arith, pair_inside p.positions c.args.a _ c.requires.from b, c.requires.size))

pub loop-b-preserved : goal.loop-b-preserved
loop-b-preserved c =
    let f : ℕ → ℕ = λ b. slice_index c.args.pairs.now (c.from.result * c.from-2.result + b) in
    rw (c.max-best.ensures, c.sum_at-sum.ensures)
    (best_more f c.moves-moves.result.now c.loop-b.b-index c.loop-b.best _ c.loop-b-test.true c.loop-b.invariant)

pub returns : goal.returns
returns c =
    let are : c.moves-moves.result.now ≡ moves_from c.args.given.now.sc.now.moves c.args.a = rw (← c.grid.ensures.value) c.moves-moves.ensures.value in
    let p = c.args.given.now.sc.now in
    let q = c.args.given.now.prefix.now in
    let f : ℕ → ℕ = λ b. slice_index c.args.pairs.now (c.from.result * c.from-2.result + b) in
    let all = best_all f c.moves-moves.result.now c.loop-b.b-index c.loop-b.best _ c.loop-b-test.false c.loop-b.invariant in
    let here : c.from.result * c.from-2.result ≡ c.args.a * c.args.given.now.sc.now.positions = rw (c.from.ensures, c.from-2.ensures, c.positions.ensures.value) refl in
    let each : (b : ℕ) → Contains (moves_from p.moves c.args.a) b → f b ≡ pair_sum p q (length q + 1) c.args.a b =
    λ b move. rw here (c.requires.pairs c.args.a b 1 refl (inr (_, refl, c.requires.step)) move) in
    rw are at all
    ∙ greatest_same f (pair_sum p q (length q + 1) c.args.a) (moves_from p.moves c.args.a) each
    ∙ sym (seconds_greatest p q c.args.a c.grid.ensures.sound (omega (arith, c.requires.short)) c.requires.from)
