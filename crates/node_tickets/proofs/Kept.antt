-- Seats at a later time.
use Rattle.std.proofs.Common.{◌≡◌, ℕ, ◌<◌, List, length, get_or, sym, subst, ◌∙◌}
use Rattle.list_laws.proofs.Matched.{AllZip-from_places, All-zip, sum_by-zip}
use Rattle.node_tickets.specs.Seats.{TicketsView, SeatView, IsSeatOf, KeepsSeat, AreAllSeats}

-- a seat of some tickets, both told otherwise
pub IsSeatOf-same : (t t' : TicketsView) (s s' : SeatView) → t ≡ t' → s ≡ s' → IsSeatOf t' s' → IsSeatOf t s
IsSeatOf-same t t' s s' same its h = subst (λ (u : TicketsView). IsSeatOf u s) (sym same) (subst (IsSeatOf t') (sym its) h)

-- all seats stay all seats as long as each is kept
pub AreAllSeats-kept : (t : TicketsView) (old new : List SeatView) → length new ≡ length old → ((i : ℕ) (d : SeatView) → i < length old → KeepsSeat t (get_or old i d) (get_or new i d)) →
    AreAllSeats t old → AreAllSeats t new
AreAllSeats-kept t old new many kept all =
    let zip = AllZip-from_places (KeepsSeat t) old new many kept in
    record {
      each = All-zip (KeepsSeat t) (IsSeatOf t) (IsSeatOf t) (λ _ _ k _. k.0) old new zip all.each;
      all = sum_by-zip (KeepsSeat t) (λ s. s.stands_for) (λ _ _ k. k.1) old new zip ∙ all.all;
    }
