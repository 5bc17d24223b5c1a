-- How contracts see a desk.
use Rattle.std.specs.Prelude.{ℕ, List}
use Rattle.steal_pool.specs.Kits.{KitView}
use Rattle.search_workers.specs.declared.agenda.Agenda.{Agenda}
use Rattle.search_workers.specs.declared.desk.Desk.{Desk}
use Rattle.search_workers.specs.Agendas.{kept}
use Rattle.search_workers.specs.Desks.{DeskView}
use Rattle.search_workers.specs.Workers.{WorkerView}

abbrev pub desk_view : Desk → DeskView
desk_view d = record {
  ticket = d.ticket;
  seat = d.incumbent.seat;
  records = d.records.items;
  waiting = d.stack;
  last = d.incumbent.standing;
  tables = d.scratch;
  belief = d.incumbent.belief;
}

-- a kit, an agenda and a desk, as contracts see a worker
abbrev pub worker_view : KitView (List ℕ) → Agenda → Desk → WorkerView
worker_view kit agenda desk = record { kit = kit; agenda = kept agenda; desk = desk_view desk }
