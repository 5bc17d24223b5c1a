use Rattle.std.proofs.Common.{◌≡◌, ◌≤◌, map, length, vec_capacity, IsFalse}
use Rattle.tree_gather.specs.Hauls.{IsBestOf}
use Rattle.search_workers.specs.Seen.{desk_view}
use Rattle.search_workers.specs.Settled.{closed_at, waiting_at, lasts_at}
use Rattle.search_workers.proofs.harvest.bring_in.Given as goal

-- what the desks so far have
abbrev pub invariant-loop-desk : goal.invariant-loop-desk
invariant-loop-desk l = record {
  closed : IsFalse l.all.short → l.all.closed.items ≡ closed_at (map desk_view l.yielded);
  waiting : IsFalse l.all.short → l.all.waiting.items ≡ waiting_at l.fn.tasks.items (map desk_view l.yielded);
  best : IsBestOf (lasts_at l.first (map desk_view l.yielded)) l.all.best;
  tickets : l.all.tickets.items ≡ map (λ d. d.ticket) (map desk_view l.yielded);
  seats : l.all.seats.items ≡ map (λ d. d.seat) (map desk_view l.yielded);
  room : (length l.fn.desks.items ≤ vec_capacity l.all.tickets) × (length l.fn.desks.items ≤ vec_capacity l.all.seats);
}
