use Rattle.std.proofs.Common.{◌-◌, ◌+◌, length}
use Rattle.node_tickets.specs.Seats.{IsSeatOf as IsTicketOf, MayDraw}
use Rattle.incumbent_board.specs.Boards.{IsSeatOf}
use Rattle.search_workers.specs.Seen.{worker_view}
use Rattle.search_workers.specs.Workers.{IsReady, IsSameWorker}
use Rattle.search_workers.proofs.run.run.Given as goal

-- the worker is ready for a further turn
abbrev pub invariant-turns : goal.invariant-turns
invariant-turns g l = record {
  ticket : IsTicketOf l.tickets l.desk.ticket;
  may : MayDraw l.desk.ticket;
  seat : IsSeatOf l.board l.desk.incumbent.seat;
  ready : IsReady l.sc l.board.first (worker_view l.kit l.agenda l.desk);
  same : IsSameWorker (worker_view l.initial.kit l.initial.agenda l.initial.desk) (worker_view l.kit l.agenda l.desk);
}

-- how many records it may still make
abbrev pub decreases-turns : goal.decreases-turns
decreases-turns g l = l.tickets.limit + 1 - length l.desk.records.items
