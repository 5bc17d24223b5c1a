-- What is known of the workers once all have gone.
use Rattle.std.proofs.Common.{◌≡◌, ℕ, zero, suc, List, [], ◌∷◌, map, sym, ap, ◌∙◌, subst, arith, All}
use Rattle.std.specs.List.{AllZip}
use Rattle.std.proofs.lemmas.List.{length-map}
use Rattle.std.proofs.lemmas.List.Elements.{All-map, length_all_zip}
use Rattle.search_model.specs.declared.standing.Standing.{Standing}
use Rattle.search_model.specs.Problem.{Problem}
use Rattle.list_laws.proofs.Mapped.{All-unmap}
use Rattle.list_laws.proofs.Matched.{All-zip, sum_by-zip}
use Rattle.list_laws.proofs.Sums.{sum_by-map}
use Rattle.steal_pool.specs.Kits.{KitView}
use Rattle.steal_pool.proofs.Wholes.{KeepPlaces, whole_kept}
use Rattle.node_tickets.specs.Seats.{TicketsView, SeatView as TicketView, IsSeatOf as IsTicketOf}
use Rattle.incumbent_board.specs.Boards.{BoardView, SeatView, IsSeatOf}
use Rattle.search_workers.specs.declared.crew.Member.{Member}
use Rattle.search_workers.specs.Crew.{IsComplete, HasGone}
use Rattle.search_workers.specs.Runs.{Runs}

pub runs_same : (p : Problem) (first : Standing) (a b m n : Member) → a ≡ m → b ≡ n → Runs p first a b → Runs p first m n
runs_same p first a b m n was is run = subst (λ (x : Member). Runs p first x n) was (subst (λ (x : Member). Runs p first a x) is run)

-- a seat of the same tickets is one of theirs, and so it is with a seat of the board
pub ticket_same : (t : TicketsView) (old new : TicketView) → (new.tickets ≡ old.tickets) × (new.limit ≡ old.limit) → IsTicketOf t old → IsTicketOf t new
ticket_same t old new same is = rw (same.0, same.1) is

pub seat_same : (b : BoardView) (old new : SeatView) → new.board ≡ old.board → IsSeatOf b old → IsSeatOf b new
seat_same b old new same is = rw same is

module _ (p : Problem) (first : Standing) where
  abbrev AllRun : List Member → List Member → Type 0
  AllRun old new = AllZip (Runs p first) old new

  places_kept : (old new : List Member) → AllRun old new → KeepPlaces (map (λ m. m.worker.kit) old) (map (λ m. m.worker.kit) new)
  places_kept [] new run i k k' was is = absurd (cc was)
  places_kept (m ∷ old) [] run i k k' was is = absurd run
  places_kept (m ∷ old) (n ∷ new) run zero k k' was is =
      let one : m.worker.kit ≡ k = cc was in
      let two : n.worker.kit ≡ k' = cc is in
      let same = run.0.went.same in (
        ap (λ (k : KitView (List ℕ)). k.pool) (sym two) ∙ same.pool ∙ ap (λ (k : KitView (List ℕ)). k.pool) one,
        ap (λ (k : KitView (List ℕ)). k.place) (sym two) ∙ same.place ∙ ap (λ (k : KitView (List ℕ)). k.place) one,
      )
  places_kept (m ∷ old) (n ∷ new) run (suc i) k k' was is = places_kept old new run.1 i k k' was is

  -- no worker is missing after the run
  pub complete_after : (t : TicketsView) (b : BoardView) (old new : List Member) → AllRun old new → IsComplete t b old → IsComplete t b new
  complete_after t b old new run complete =
      let kit : Member → KitView (List ℕ) = λ m. m.worker.kit in
      let ticket : Member → TicketView = λ m. m.worker.desk.ticket in
      let seat : Member → SeatView = λ m. m.worker.desk.seat in
      record {
        kits = whole_kept (map kit old) (map kit new) (omega (arith, length-map new kit, length-map old kit, length_all_zip (Runs p first) old new run)) (places_kept old new run) complete.kits;
        tickets = record {
          each = All-map (IsTicketOf t) ticket new (All-zip (Runs p first) (λ m. IsTicketOf t (ticket m)) (λ m. IsTicketOf t (ticket m))
              (λ m n r is. ticket_same t (ticket m) (ticket n) r.went.same.desk.tickets is) old new run (All-unmap (IsTicketOf t) ticket old complete.tickets.each));
          all = sum_by-map (λ (s : TicketView). s.stands_for) ticket new
              ∙ sum_by-zip (Runs p first) (λ m. m.worker.desk.ticket.stands_for) (λ m n r. r.went.same.desk.stands_for) old new run
              ∙ sym (sum_by-map (λ (s : TicketView). s.stands_for) ticket old) ∙ complete.tickets.all;
        };
        seats = record {
          each = All-map (IsSeatOf b) seat new (All-zip (Runs p first) (λ m. IsSeatOf b (seat m)) (λ m. IsSeatOf b (seat m))
              (λ m n r is. seat_same b (seat m) (seat n) r.went.same.desk.seat.0 is) old new run (All-unmap (IsSeatOf b) seat old complete.seats.each));
          all = sum_by-map (λ (s : SeatView). s.stands) seat new
              ∙ sum_by-zip (Runs p first) (λ m. m.worker.desk.seat.stands) (λ m n r. r.went.same.desk.seat.1) old new run
              ∙ sym (sum_by-map (λ (s : SeatView). s.stands) seat old) ∙ complete.seats.all;
        };
      }

  -- and each has gone
  pub gone_after : (old new : List Member) → AllRun old new → All (HasGone p first) new
  gone_after old new run =
      All-zip (Runs p first) (λ _. Unit {0}) (HasGone p first) (λ m n r _. record { balanced = r.went.balanced; order = r.went.order; leaves = r.went.leaves }) old new run (λ k d l. tt)
