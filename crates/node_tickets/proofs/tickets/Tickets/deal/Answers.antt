use Rattle.std.proofs.Common.{ap, ◌∙◌, arith}
use Rattle.node_tickets.specs.Seats.{SeatView}
use Rattle.node_tickets.proofs.Kept.{IsSeatOf-same}
use Rattle.node_tickets.proofs.Steps.{forks}
use Rattle.node_tickets.proofs.tickets.Tickets.deal.Goals as goal

pub split_seat-place-requires : goal.split_seat-place-requires
split_seat-place-requires c =
    let its = IsSeatOf-same _ _ _ _ c.self.view_is c.seat.view_is c.requires.seat in
    let place = c.seat.inside.place in
    let two = ap (λ (s : SeatView). s.stands_for) c.seat.view_is in
    let none = ap (λ (s : SeatView). s.drawn) c.seat.view_is ∙ c.requires.fresh in
    (its.0, omega (arith, c.self.invariant.one), forks c.self.inside.word.shared.key place.id place.me.0 (omega (arith, two, c.requires.some)) none)
