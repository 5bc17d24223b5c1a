use Rattle.std.proofs.Common.{sym, ◌∙◌, arith}
use Rattle.node_tickets.proofs.Kept.{IsSeatOf-same}
use Rattle.node_tickets.proofs.Steps.{reads}
use Rattle.node_tickets.proofs.tickets.Tickets.drawn.Goals as goal

pub load-requires : goal.load-requires
load-requires c =
    let its = IsSeatOf-same _ _ _ _ c.self.view_is c.seat.view_is c.requires in
    let place = c.seat.inside.place in
    (its.0, omega (arith, c.self.invariant.one), reads c.self.inside.word.shared.key _ place.id place.me (c.self.invariant.limit ∙ sym its.1))
