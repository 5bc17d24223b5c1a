use Rattle.std.proofs.Common.{◌≡◌, ℕ, List, ap, sym, ◌∙◌, subst, arith, IsPermutation}
use Rattle.std.specs.List.{sum_by, range_with_len}
use Rattle.std.proofs.lemmas.List.Sums.{sum_by_push}
use Rattle.std.proofs.lemmas.List.Sorted.{IsPermutation-trans}
use Rattle.node_tickets.specs.Seats.{ALL_SEATS, SeatView}
use Rattle.node_tickets.proofs.Kept.{IsSeatOf-same}
use Rattle.node_tickets.proofs.Steps.{closes}
use Rattle.node_tickets.proofs.Closing.{joined_all, all_numbers, all_may}
use Rattle.node_tickets.proofs.tickets.Tickets.close.Goals as goal

pub load-requires : goal.load-requires
load-requires c =
    let its = IsSeatOf-same _ _ _ _ c.self.view_is c.whole.view_is c.join_all.ensures.whole in
    let place = c.whole.inside.place in
    (its.0, omega (arith, c.self.invariant.one), closes c.self.inside.word.shared.key _ place.id place.me (c.self.invariant.limit ∙ sym its.1))

pub returns-clause-drawn : goal.returns-clause-drawn
returns-clause-drawn c =
    let rest = c.pop.new.self.items in
    let whole = c.in-Some.whole in
    let split = c.in-Some.ensures.items in
    let stands = λ (s : SeatView). s.stands_for in
    let all : c.whole.inside.place.me.0.stands_for ≡ ALL_SEATS = omega (arith, ap stands c.whole.view_is, c.join_all.ensures.stands, ap (sum_by stands) split, sum_by_push stands rest whole, c.requires.all) in
    let drawn = subst (λ (l : List ℕ). IsPermutation l (range_with_len 0 c.load.result)) (ap (λ (s : SeatView). s.drawn) c.whole.view_is) (c.load.ensures.2.2 all) in
    IsPermutation-trans _ _ _ (joined_all _ c.args.seats.items rest whole split c.join_all.ensures.drawn) drawn

pub returns-clause-numbers : goal.returns-clause-numbers
returns-clause-numbers c = all_numbers c.args.self c.args.seats.items c.load.result c.requires.each (returns-clause-drawn c)

pub returns-clause-full : goal.returns-clause-full
returns-clause-full c = all_may c.args.self c.args.seats.items c.load.result c.requires.each (returns-clause-drawn c)
