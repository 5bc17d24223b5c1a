use Rattle.std.proofs.Common.{◌∷◌, [], arith, ap, ◌∙◌, subst, All}
use Rattle.std.specs.List.{sum_by}
use Rattle.std.proofs.lemmas.List.Sums.{sum_by_push}
use Rattle.node_tickets.specs.Seats.{SeatView, IsSeatOf}
use Rattle.list_laws.proofs.Halves.{All-front}
use Rattle.node_tickets.proofs.Closing.{joined_more}
use Rattle.node_tickets.proofs.tickets.Tickets.join_all.Goals as goal

pub loop-seat-preserved : goal.loop-seat-preserved
loop-seat-preserved c =
    let inv = c.loop-seat.invariant in
    let rest = c.pop.new.self.items in
    let seat = c.in-Some.seat in
    let split = c.in-Some.ensures.items in
    let joined = c.join.ensures in
    let its = IsSeatOf c.args.self.now in
    let stands = λ (s : SeatView). s.stands_for in
    record {
      whole = (ap (λ (s : SeatView). s.tickets) joined ∙ inv.whole.0, ap (λ (s : SeatView). s.limit) joined ∙ inv.whole.1);
      seats = All-front its rest (seat ∷ []) (subst (All its) split inv.seats);
      stands = omega (arith, ap stands joined, inv.stands, ap (sum_by stands) split, sum_by_push stands rest seat);
      drawn = joined_more c.loop-seat.whole.drawn _ _ c.loop-seat.seats.items rest seat split (ap (λ (s : SeatView). s.drawn) joined) inv.drawn;
    }
