use Rattle.std.proofs.Common.{◌≡◌, ◌+◌, ◌-◌, ℕ, length, map, max, drop}
use Rattle.search_model.specs.Legal.{walks}
use Rattle.search_model.specs.Bounds.{reward_of, greatest}
use Rattle.two_look_bound.specs.Pairs.{second_sum}
use Rattle.two_look_bound.proofs.rows.best_first.Given as goal

-- the best so far, or the greatest of what is left
abbrev pub invariant-loop-a : goal.invariant-loop-a
invariant-loop-a l =
    let f : ℕ → ℕ = λ a. reward_of l.given.sc.now l.given.prefix.now (length l.given.prefix.now + 1) a + greatest (map (second_sum l.given.sc.now l.given.prefix.now a) (walks l.given.sc.now.moves (l.given.sc.now.horizon - (length l.given.prefix.now + 1)) a)) in
    max l.best (greatest (map f (drop l.a-index l.moves))) ≡ greatest (map f l.moves)
