use Rattle.std.proofs.Common.{◌≡◌, ◌≤◌, ℕ, map, max, drop}
use Rattle.search_model.specs.Bounds.{greatest}
use Rattle.edge_bound.specs.Moves.{edge_and_later}
use Rattle.edge_bound.proofs.best.best_by_row.Given as goal

-- the best so far, or the greatest of what is left; the best is no less than the sum through the move of the greatest gain
abbrev pub invariant-loop-b : goal.invariant-loop-b
invariant-loop-b l =
    let f : ℕ → ℕ = edge_and_later l.sc l.prefix l.t l.a in
    record {
      best : max l.best (greatest (map f (drop l.b-index l.moves))) ≡ greatest (map f l.moves);
      top : f l.top ≤ l.best;
    }
