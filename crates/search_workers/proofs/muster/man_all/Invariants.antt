use Rattle.std.proofs.Common.{◌≡◌, ◌++◌, map, reverse, length, All}
use Rattle.steal_pool.specs.News.{IsFresh as IsFreshKit}
use Rattle.node_tickets.specs.Seats.{IsFresh}
use Rattle.incumbent_board.specs.Boards.{IsNewSeat}
use Rattle.search_workers.specs.Workers.{IsReady}
use Rattle.search_workers.proofs.muster.man_all.Given as goal

-- what is left, and what the workers made so far have, the last first
abbrev pub invariant-loop-kit : goal.invariant-loop-kit
invariant-loop-kit l = record {
  kits : l.kits.items ++ reverse (map (λ m. m.worker.kit) l.crew.items) ≡ l.initial.kits.items;
  tickets : l.tickets.items ++ reverse (map (λ m. m.worker.desk.ticket) l.crew.items) ≡ l.initial.tickets.items;
  seats : l.seats.items ++ reverse (map (λ m. m.worker.desk.seat) l.crew.items) ≡ l.initial.seats.items;
  many : (length l.tickets.items ≡ length l.kits.items) × (length l.seats.items ≡ length l.kits.items);
  fresh_kits : All IsFreshKit l.kits.items;
  fresh_tickets : All IsFresh l.tickets.items;
  new_seats : All (IsNewSeat l.first) l.seats.items;
  ready : All (λ m. IsReady l.sc l.first m.worker) l.crew.items;
}

abbrev pub decreases-loop-kit : goal.decreases-loop-kit
decreases-loop-kit l = length l.kits.items
