use Rattle.std.proofs.Common.{◌≡◌, ◌≤◌, map, length, vec_capacity}
use Rattle.search_workers.specs.Agendas.{kept}
use Rattle.search_workers.specs.Seen.{desk_view}
use Rattle.search_workers.proofs.joins.part_all.Given as goal

abbrev pub invariant-loop-member : goal.invariant-loop-member
invariant-loop-member l = record {
  kits : l.kits.items ≡ map (λ m. m.worker.kit) l.yielded;
  agendas : map kept l.agendas.items ≡ map (λ m. m.worker.agenda) l.yielded;
  desks : map desk_view l.desks.items ≡ map (λ m. m.worker.desk) l.yielded;
  many : (length l.agendas.items ≡ length l.kits.items) × (length l.desks.items ≡ length l.kits.items);
  room : (length l.fn.crew.items ≤ vec_capacity l.kits) × (length l.fn.crew.items ≤ vec_capacity l.agendas) × (length l.fn.crew.items ≤ vec_capacity l.desks);
}
