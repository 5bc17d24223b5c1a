use Rattle.std.proofs.Common.{◌≡◌, ◌-◌, length}
use Rattle.search_workers.specs.Rounds.{MissedAll}
use Rattle.search_workers.proofs.rounds.steal_from_others.Given as goal

-- each try so far got no task
abbrev pub invariant-loop-ahead : goal.invariant-loop-ahead
invariant-loop-ahead l = record {
  so_far : MissedAll l.initial.kit (l.ahead - 1) l.kit;
  workers : l.workers ≡ length l.initial.kit.pool;
  place : l.place ≡ l.initial.kit.place;
}
