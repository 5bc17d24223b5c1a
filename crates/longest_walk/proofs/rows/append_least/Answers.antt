use Rattle.std.proofs.Common.{ℕ, ◌≡◌, ◌+◌, ◌-◌, [], ◌∷◌, length, sym, ◌∙◌, subst, arith, length-append, append-nil}
use Rattle.search_model.proofs.LegalLemmas.{move_within}
use Rattle.search_model.specs.Reference.{IsLeastBest}
use Rattle.longest_walk.proofs.Filling.{near_closed}
use Rattle.longest_walk.proofs.LeastWalks.{IsLeastBest-nil}
use Rattle.longest_walk.proofs.LeastSteps.{IsLeastBest-step, drop-pushed, Starts-pushed}
use Rattle.longest_walk.proofs.rows.append_least.Goals as goal

pub loop-t-preserved : goal.loop-t-preserved
loop-t-preserved c =
    let rows = c.args.grid.now in
    let k : ℕ = length c.args.to.now in
    let positions : c.from-positions.result ≡ length rows = c.from-positions.ensures ∙ c.cells.ensures.value in
    let step = rw (positions, c.moves.ensures.value) at c.least_move-at.ensures in
    let parts = near_closed rows c.cells.ensures.sound c.args.from k c.loop-t.t c.loop-t.at c.requires.from c.loop-t.invariant.begun c.loop-t.invariant.near in
    record {
      begun = omega (arith, c.loop-t.invariant.begun);
      position = move_within rows c.cells.ensures.sound c.loop-t.at c.least_move-at.result c.loop-t.invariant.position step.move;
      near = parts.1 c.least_move-at.result step.move;
      long = rw (c.push.ensures, length-append) (omega arith);
      kept = rw c.push.ensures (Starts-pushed c.args.to.now c.loop-t.to c.least_move-at.result c.loop-t.invariant.kept);
      least = λ r y filled rest.
          rw (c.push.ensures, drop-pushed c.args.to.now c.loop-t.to c.least_move-at.result y c.loop-t.invariant.kept)
          (c.loop-t.invariant.least r (c.least_move-at.result ∷ y) filled
          (IsLeastBest-step rows c.cells.ensures.sound c.args.horizon r c.args.sums.now c.args.from k c.loop-t.t c.loop-t.at c.least_move-at.result y
          c.requires.from c.loop-t.invariant.begun filled (omega arith) c.loop-t.invariant.near step rest));
    }

pub returns-clause-least : goal.returns-clause-least
returns-clause-least c r filled =
    let none : c.args.horizon - c.loop-t.t ≡ 0 = omega arith in
    let rest = subst (λ n. IsLeastBest c.args.grid.now r n (c.loop-t.t + 1) c.loop-t.at []) (sym none)
    (IsLeastBest-nil c.args.grid.now r (c.loop-t.t + 1) c.loop-t.at) in
    rw append-nil at (c.loop-t.invariant.least r [] filled rest)
