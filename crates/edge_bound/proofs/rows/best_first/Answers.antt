use Rattle.std.proofs.Common.{◌≡◌, ℕ, slice_index, sym, ◌∙◌, arith}
use Rattle.search_grid.specs.Moves.{moves_from}
use Rattle.search_model.specs.Legal.{last_of, moves_after}
use Rattle.search_model.proofs.LegalLemmas.{last_within}
use Rattle.longest_walk.proofs.RowSteps.{best_more, best_all}
use Rattle.edge_bound.proofs.Walking.{gains_first, move_there}
use Rattle.edge_bound.proofs.rows.best_first.Goals as goal

pub bounds-gains-from : goal.bounds-gains-from
bounds-gains-from c =
    let p = c.args.sc.now in
    let q = c.args.prefix.now in
    let sound = c.moves_after-moves.ensures.sound in
    let here = last_within p.moves sound.grid p.start (omega (arith, sound.start, sound.grid_positions)) q c.requires.legal.follows in
    let moves : c.moves_after-moves.result.now ≡ moves_from p.moves (last_of p.start q) = c.moves_after-moves.ensures.value in
    let there = rw (← moves) at (move_there p sound q (last_of p.start q) c.loop-b.b-index here (rw moves at c.loop-b-test.true)) in
    omega (arith, there, c.from.ensures, c.requires.width)

pub loop-b-preserved : goal.loop-b-preserved
loop-b-preserved c =
    let f : ℕ → ℕ = λ b. slice_index c.args.gains.now b in
    rw (c.max-best.ensures, c.from.ensures)
    (best_more f c.moves_after-moves.result.now c.loop-b.b-index c.loop-b.best _ c.loop-b-test.true c.loop-b.invariant)

pub returns : goal.returns
returns c =
    let p = c.args.sc.now in
    let q = c.args.prefix.now in
    let f : ℕ → ℕ = λ b. slice_index c.args.gains.now b in
    let moves : c.moves_after-moves.result.now ≡ moves_after p q = c.moves_after-moves.ensures.value in
    let all = best_all f c.moves_after-moves.result.now c.loop-b.b-index c.loop-b.best _ c.loop-b-test.false c.loop-b.invariant in
    rw moves at all
    ∙ sym (gains_first p c.moves_after-moves.ensures.sound q c.args.gains.now c.requires.legal c.requires.short c.requires.gains)
