-- The workers of a new search, one for each kit.
use Rattle.std.proofs.Common.{◌≡◌, ◌<◌, ◌^◌, List, [], ◌∷◌, ◌++◌, map, reverse, length, get_or, refl, sym, ap, ◌∙◌, subst, arith, All, append_assoc}
use Rattle.std.proofs.lemmas.List.{reverse-append, map-append}
use Rattle.std.proofs.lemmas.List.Elements.{All-nil, All-push}
use Rattle.list_laws.proofs.Mapped.{All-unmap}
use Rattle.search_model.specs.declared.standing.Standing.{Standing}
use Rattle.search_model.specs.Problem.{Problem, IsProblem}
use Rattle.search_model.proofs.Totals.{whole_weight-fits}
use Rattle.bound_tree.specs.Close.{IsExact}
use Rattle.node_tickets.specs.Seats.{TicketsView, SeatView as TicketView, IsFresh, MayDraw, IsSeatOf as IsTicketOf}
use Rattle.incumbent_board.specs.Boards.{BoardView, SeatView, IsSeatOf}
use Rattle.search_workers.specs.declared.crew.Member.{Member}
use Rattle.search_workers.specs.Workers.{IsReady}
use Rattle.search_workers.specs.Crew.{IsComplete, MayGo}

module _ {X : Type 0} (f : Member → X) where
  -- what goes from the end of a list to a new worker
  pub manned : (left rest : List X) (crew more : List Member) (x : X) (m : Member) (whole : List X) → left ≡ rest ++ x ∷ [] → more ≡ crew ++ m ∷ [] → f m ≡ x →
      left ++ reverse (map f crew) ≡ whole → rest ++ reverse (map f more) ≡ whole
  manned left rest crew more x m whole taken made has all =
      let turned : reverse (map f (crew ++ m ∷ [])) ≡ f m ∷ reverse (map f crew) = ap reverse (map-append f crew (m ∷ [])) ∙ reverse-append (map f crew) (f m ∷ []) in
      ap (λ (ms : List Member). rest ++ reverse (map f ms)) made
      ∙ ap (λ (ys : List X). rest ++ ys) turned
      ∙ ap (λ (y : X). rest ++ y ∷ reverse (map f crew)) has
      ∙ sym (append_assoc rest (x ∷ []) (reverse (map f crew)))
      ∙ ap (λ (ys : List X). ys ++ reverse (map f crew)) (sym taken)
      ∙ all

  map-reverse : (crew : List Member) → map f (reverse crew) ≡ reverse (map f crew)
  map-reverse [] = refl
  map-reverse (m ∷ crew) =
      ap (map f) (reverse-append (m ∷ []) crew)
      ∙ map-append f (reverse crew) (m ∷ [])
      ∙ ap (λ (ys : List X). ys ++ f m ∷ []) (map-reverse crew)
      ∙ sym (reverse-append (f m ∷ []) (map f crew))

  -- all have gone to workers, who are turned round then
  pub all_manned : (left : List X) (crew turned : List Member) (whole : List X) → length left ≡ 0 → turned ≡ reverse crew → left ++ reverse (map f crew) ≡ whole → map f turned ≡ whole
  all_manned [] crew turned whole none is all = ap (map f) is ∙ map-reverse crew ∙ all
  all_manned (x ∷ left) crew turned whole none is all = absurd (omega (arith, none))

-- what holds of the workers so far, and of a new one
pub one_more : (P : Member → Type 0) (crew more : List Member) (m : Member) → more ≡ crew ++ m ∷ [] → All P crew → P m → All P more
one_more P crew more m made each here = subst (All P) (sym made) (All-push P crew m each here)

-- an exact value fits the board
pub exact_fits : (p : Problem) (s : Standing) → IsProblem p → IsExact p s → s.value < 2 ^ 127
exact_fits p s sound exact = let fits = whole_weight-fits p sound in let value = exact.value in omega (arith, fits, value)

-- a seat that drew nothing may draw
fresh_may_draw : (seat : TicketView) → IsFresh seat → MayDraw seat
fresh_may_draw seat fresh = subst (All (λ n. n < seat.limit)) (sym fresh) (All-nil (λ n. n < seat.limit))

-- complete workers of fresh seats may go
pub all_may_go : (p : Problem) (t : TicketsView) (b : BoardView) (crew : List Member) → IsComplete t b crew → All IsFresh (map (λ m. m.worker.desk.ticket) crew) →
    IsExact p b.first → All (λ m. IsReady p b.first m.worker) crew → All (λ m. MayGo p t b m.worker) crew
all_may_go p t b crew complete fresh exact ready = λ k m here.
    let ticket : Member → TicketView = λ m. m.worker.desk.ticket in
    let seat : Member → SeatView = λ m. m.worker.desk.seat in
    record {
      ticket = All-unmap (IsTicketOf t) ticket crew complete.tickets.each k m here;
      may = fresh_may_draw (ticket (get_or crew k m)) (All-unmap IsFresh ticket crew fresh k m here);
      seat = All-unmap (IsSeatOf b) seat crew complete.seats.each k m here;
      first = exact;
      ready = ready k m here;
    }
