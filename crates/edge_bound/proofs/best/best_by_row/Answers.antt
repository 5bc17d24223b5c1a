use Rattle.std.proofs.Common.{◌≡◌, ℕ, map, sym, ◌∙◌, arith}
use Rattle.search_grid.specs.Moves.{moves_from}
use Rattle.search_model.proofs.Greatest.{greatest_above}
use Rattle.list_laws.proofs.Members.{Contains-map}
use Rattle.longest_walk.proofs.RowSteps.{best_more, best_all}
use Rattle.edge_bound.specs.Moves.{edge_and_later}
use Rattle.edge_bound.proofs.Fitting.{found_parts-within}
use Rattle.edge_bound.proofs.Walking.{sums_before}
use Rattle.edge_bound.proofs.best.best_by_row.Goals as goal

pub fill_shares-found-requires-clause-fits : goal.fill_shares-found-requires-clause-fits
fill_shares-found-requires-clause-fits c =
    rw c.requires.parts (found_parts-within c.args.sc.now c.grid.ensures.sound c.args.prefix.now c.args.t c.args.a c.requires.period.later c.requires.period.last)

pub loop-b-init : goal.loop-b-init
loop-b-init c =
    let f : ℕ → ℕ = edge_and_later c.args.sc.now c.args.prefix.now c.args.t c.args.a in
    let moves = c.moves-moves.result.now in
    let top = c.least_move-top.result in
    let most = greatest_above (map f moves) (f top) (Contains-map f moves top c.least_move-top.ensures.move) in
    record {
      best = omega (arith, c.sum_by_row-best.ensures, most);
      top = omega (arith, c.sum_by_row-best.ensures);
    }

pub better_by_row-best-requires-clause-shares : goal.better_by_row-best-requires-clause-shares
better_by_row-best-requires-clause-shares c = rw c.requires.parts at c.fill_shares-found.ensures.each

pub loop-b-preserved : goal.loop-b-preserved
loop-b-preserved c =
    let f : ℕ → ℕ = edge_and_later c.args.sc.now c.args.prefix.now c.args.t c.args.a in
    record {
      best = rw c.better_by_row-best.ensures (best_more f c.moves-moves.result.now c.loop-b.b-index c.loop-b.best _ c.loop-b-test.true c.loop-b.invariant.best);
      top = omega (arith, c.better_by_row-best.ensures, c.loop-b.invariant.top);
    }

pub gain_before-requires-clause-best : goal.gain_before-requires-clause-best
gain_before-requires-clause-best c =
    let p = c.args.sc.now in
    let q = c.args.prefix.now in
    let f : ℕ → ℕ = edge_and_later p q c.args.t c.args.a in
    let moves : c.moves-moves.result.now ≡ moves_from p.moves c.args.a = rw (← c.grid.ensures.value) c.moves-moves.ensures.value in
    let all = best_all f c.moves-moves.result.now c.loop-b.b-index c.loop-b.best _ c.loop-b-test.false c.loop-b.invariant.best in
    rw moves at all
    ∙ sym (sums_before p q c.args.t c.args.a c.grid.ensures.sound c.requires.period.last c.requires.from)
