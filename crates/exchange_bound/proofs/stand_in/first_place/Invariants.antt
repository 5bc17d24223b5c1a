use Rattle.std.proofs.Common.{ℕ, ◌<◌, ◌≤◌}
use Rattle.exchange_bound.specs.StandIns.{Yields, place_at}
use Rattle.exchange_bound.proofs.stand_in.first_place.Given as goal

-- the first of those so far
abbrev pub invariant-loop-j : goal.invariant-loop-j
invariant-loop-j l = record {
  from : l.from ≤ l.first;
  to : l.first < l.j;
  first : (k : ℕ) → l.from ≤ k → k < l.j → Yields (place_at l.row k) (place_at l.row l.first);
}
