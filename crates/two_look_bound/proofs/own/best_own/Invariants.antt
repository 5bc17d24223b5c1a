use Rattle.std.proofs.Common.{◌≡◌, ℕ, map, max, drop}
use Rattle.search_model.specs.Bounds.{greatest}
use Rattle.two_look_bound.specs.Pairs.{two_and_rest}
use Rattle.two_look_bound.proofs.own.best_own.Given as goal

-- the best so far, or the greatest of what is left
abbrev pub invariant-loop-c : goal.invariant-loop-c
invariant-loop-c l =
    let f : ℕ → ℕ = two_and_rest l.given.sc.now l.given.prefix.now l.s l.a l.b in
    max l.best (greatest (map f (drop l.c-index l.moves))) ≡ greatest (map f l.moves)
