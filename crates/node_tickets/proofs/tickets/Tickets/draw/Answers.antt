use Rattle.std.proofs.Common.{◌≡◌, ◌+◌, ◌<◌, ℕ, sym, ap, ◌∙◌, subst, arith, All}
use Rattle.node_tickets.specs.Draws.{IfNumber, IfFull}
use Rattle.node_tickets.specs.Seats.{SeatView, MayDraw, numbers_of}
use Rattle.node_tickets.proofs.Kept.{IsSeatOf-same}
use Rattle.node_tickets.proofs.Steps.{draws}
use Rattle.node_tickets.proofs.Tallies.{low_by, number_counts, full_counts}
use Rattle.node_tickets.proofs.tickets.Tickets.draw.Goals as goal

pub fetch_add-number-requires : goal.fetch_add-number-requires
fetch_add-number-requires c =
    let its = IsSeatOf-same _ _ _ _ c.self.view_is c.seat.view_is c.requires.seat in
    let place = c.seat.inside.place in
    let low = subst (λ (l : ℕ). All (λ n. n < l) place.me.0.drawn) (its.1 ∙ sym c.self.invariant.limit) (subst MayDraw (sym c.seat.view_is) c.requires.may) in
    (its.0, omega (arith, c.self.invariant.one), draws c.self.inside.word.shared.key _ place.id place.me low c.seat.invariant.some (omega (arith, c.self.invariant.limit, c.self.invariant.most)))

pub returns-clause-counts : goal.returns-clause-counts
returns-clause-counts c =
    let its = IsSeatOf-same _ _ _ _ c.self.view_is c.seat.view_is c.requires.seat in
    let v = c.seat.inside.place.me.0 in
    let w = c.fetch_add-number.new.seat.me.0 in
    subst (λ (s : SeatView). IfNumber c.of.result (λ _. low_by w ≡ numbers_of s + 1)) c.seat.view_is
    (number_counts c.of.result c.self.inside.limit _ v w its.1 (ap (λ m. m.0) c.fetch_add-number.ensures.2.0) c.of.ensures.drawn c.of.ensures.number)

pub returns-clause-no_more : goal.returns-clause-no_more
returns-clause-no_more c =
    let its = IsSeatOf-same _ _ _ _ c.self.view_is c.seat.view_is c.requires.seat in
    let v = c.seat.inside.place.me.0 in
    let w = c.fetch_add-number.new.seat.me.0 in
    subst (λ (s : SeatView). IfFull c.of.result (λ _. low_by w ≡ numbers_of s)) c.seat.view_is
    (full_counts c.of.result c.self.inside.limit _ v w its.1 (ap (λ m. m.0) c.fetch_add-number.ensures.2.0) c.of.ensures.drawn c.of.ensures.full)
