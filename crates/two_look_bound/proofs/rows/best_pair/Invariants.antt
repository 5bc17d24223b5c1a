use Rattle.std.proofs.Common.{◌≡◌, ◌+◌, ℕ, map, max, drop, slice_index}
use Rattle.search_model.specs.Bounds.{greatest}
use Rattle.two_look_bound.proofs.rows.best_pair.Given as goal

-- the best so far, or the greatest of what is left
abbrev pub invariant-loop-b : goal.invariant-loop-b
invariant-loop-b l =
    let f : ℕ → ℕ = λ b. slice_index l.pairs (l.here + b) in
    max l.best (greatest (map f (drop l.b-index l.moves))) ≡ greatest (map f l.moves)
