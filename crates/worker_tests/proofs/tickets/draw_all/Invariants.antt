use Rattle.std.proofs.Common.{◌≡◌}
use Rattle.node_tickets.specs.Seats.{IsSeatOf, MayDraw}
use Rattle.worker_tests.proofs.tickets.draw_all.Given as goal

abbrev pub invariant-loop-drawn : goal.invariant-loop-drawn
invariant-loop-drawn l = record {
  seat : IsSeatOf l.tickets l.seat;
  may : MayDraw l.seat;
  stands : l.seat.stands_for ≡ l.initial.seat.stands_for;
}
