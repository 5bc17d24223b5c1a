use Rattle.std.proofs.Common.{◌≡◌, ◌*◌}
use Rattle.search_workers.specs.Rounds.{MissedAll, others}
use Rattle.search_workers.proofs.rounds.take_task.Given as goal

-- each round so far got no task
abbrev pub invariant-loop-round : goal.invariant-loop-round
invariant-loop-round g l = record {
  so_far : MissedAll l.initial.kit (l.round * others l.initial.kit) l.kit;
  ticket : l.ticket ≡ l.initial.ticket;
}
