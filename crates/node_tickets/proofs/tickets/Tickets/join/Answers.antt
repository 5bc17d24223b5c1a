use Rattle.std.proofs.Common.{arith}
use Rattle.node_tickets.proofs.Kept.{IsSeatOf-same}
use Rattle.node_tickets.proofs.Steps.{merges}
use Rattle.node_tickets.proofs.tickets.Tickets.join.Goals as goal

pub join_seat-requires : goal.join_seat-requires
join_seat-requires c =
    let its = IsSeatOf-same _ _ _ _ c.self.view_is c.seat.view_is c.requires.seat in
    let others = IsSeatOf-same _ _ _ _ c.self.view_is c.other.view_is c.requires.other in
    let place = c.seat.inside.place in
    let other = c.other.inside.place in
    (its.0, others.0, c.other.invariant.no_slots, omega (arith, c.self.invariant.one), merges c.self.inside.word.shared.key place.id place.me.0 other.id other.me.0 c.seat.invariant.some)
