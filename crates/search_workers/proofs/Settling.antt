-- The desks of a search once its kits are settled.
use Rattle.std.proofs.Common.{◌≡◌, ℕ, ◌<◌, List, [], ◌∷◌, ◌++◌, map, length, get_or, set, refl, sym, ap, ◌∙◌, subst, arith, All, flat_map}
use Rattle.std.proofs.lemmas.List.Elements.{All-nil, All-cons, All-head, All-tail, All-weaker}
use Rattle.std.proofs.lemmas.List.Sums.{sum_by-cons}
use Rattle.search_model.specs.declared.standing.Standing.{Standing}
use Rattle.search_model.specs.Problem.{Problem, IsProblem}
use Rattle.search_model.specs.Legal.{IsLegal}
use Rattle.bound_tree.specs.declared.node.Kind.TheVariants.{Branch}
use Rattle.bound_tree.specs.declared.node.TreeNode.{TreeNode}
use Rattle.bound_tree.specs.Accepts.{prefixes_of}
use Rattle.bound_tree.specs.Close.{IsClosed, IsLive, LetsBranch}
use Rattle.search_core.specs.Counts.{count_of}
use Rattle.search_core.specs.Balance.{expected_of, MeetsEquation}
use Rattle.search_core.proofs.Counts.{count_of-append}
use Rattle.search_core.proofs.Children.{expected-append, prefixes-append}
use Rattle.search_core.proofs.Live.{balanced_is_live}
use Rattle.search_core.proofs.Reached.{standing_is}
use Rattle.node_tickets.specs.Seats.{TicketsView, SeatView as TicketView, MayDraw, IsSeatOf as IsTicketOf}
use Rattle.incumbent_board.specs.Boards.{BoardView, SeatView, IsSeatOf}
use Rattle.search_workers.specs.declared.desk.Desk.{Desk}
use Rattle.search_workers.specs.declared.left.Left.{Left}
use Rattle.search_workers.specs.declared.left.Left.TheVariants.{Idle, Full, NoMemory}
use Rattle.search_workers.specs.Desks.{DeskView, IsInOrder, IsSameDesk}
use Rattle.search_workers.specs.Seen.{desk_view}
use Rattle.search_workers.specs.Finish.{MayClose, WorksOff, EndsWork}
use Rattle.search_workers.specs.Settled.{closed_at, waiting_at, IsSettled, LeaveDesks, EndsSearch}
use Rattle.search_workers.proofs.Gone.{ticket_same, seat_same}
use Rattle.search_workers.proofs.Worked.{even_from}
use Rattle.list_laws.proofs.Halves.{All-front, All-back}
use Rattle.list_laws.proofs.Mapped.{All-unmap}
use Rattle.list_laws.proofs.Wholes.{All-joined, All-parts}

-- desks in order branch only where the first standing does
pub lets_branch_at : (p : Problem) (first : Standing) (desks : List DeskView) → All (IsInOrder p first) desks → LetsBranch p first (closed_at desks)
lets_branch_at p first desks order =
    let P : TreeNode → Type 0 = λ r. r.kind ≡ Branch → IsClosed p first r.prefix Branch in
    let Q : DeskView → Type 0 = λ d. All P d.records in
    All-joined P (λ d. d.records) desks (All-weaker (IsInOrder p first) Q (λ d o. (o.sound [] [] []).branches) desks order)

-- what waits at settled desks, or is left, is legal
pub all_legal : (p : Problem) (first : Standing) (tasks : List (List ℕ)) (desks : List DeskView) → IsProblem p → All (IsInOrder p first) desks →
    MeetsEquation p [] (waiting_at tasks desks) (closed_at desks) → All (IsLegal p) tasks × All (λ d. All (IsLegal p) d.waiting) desks
all_legal p first tasks desks sound order even =
    let live = (balanced_is_live p first [] (waiting_at tasks desks) (closed_at desks) sound even (lets_branch_at p first desks order)).1 in
    let waiting = All-front (IsLive p first) (waiting_at tasks desks) (prefixes_of (closed_at desks)) live in
    let legal = All-weaker (IsLive p first) (IsLegal p) (λ q l. l.legal) (waiting_at tasks desks) waiting in
    (All-front (IsLegal p) tasks (flat_map (λ d. d.waiting) desks) legal, All-parts (IsLegal p) (λ d. d.waiting) desks (All-back (IsLegal p) tasks (flat_map (λ d. d.waiting) desks) legal))

-- the first desk
first_of : (P : DeskView → Type 0) (desks : List Desk) (d : Desk) → 0 < length desks → d ≡ get_or desks 0 d → All P (map desk_view desks) → P (desk_view d)
first_of P [] d some is all = absurd (omega (arith, some))
first_of P (x ∷ desks) d some is all = subst (λ (z : Desk). P (desk_view z)) (sym is) (All-head P (desk_view x) (map desk_view desks) all)

module _ (p : Problem) (t : TicketsView) (b : BoardView) (tasks : List (List ℕ)) (desks : List Desk) (d : Desk) (some : 0 < length desks) (is : d ≡ get_or desks 0 d)
    (settled : IsSettled p t b tasks (map desk_view desks)) (idle : LeaveDesks Idle (map desk_view desks)) where
  abbrev views : List DeskView
  views = map desk_view desks

  pub first_empty : d.stack ≡ []
  first_empty = (first_of (λ d. MayDraw d.ticket × (d.waiting ≡ [])) desks d some is idle).1

  pub first_may : MayClose p t b (desk_view d)
  first_may = record {
    ticket = first_of (λ d. IsTicketOf t d.ticket) desks d some is (All-unmap (IsTicketOf t) (λ (d : DeskView). d.ticket) views settled.tickets.each);
    may = (first_of (λ d. MayDraw d.ticket × (d.waiting ≡ [])) desks d some is idle).0;
    seat = first_of (λ d. IsSeatOf b d.seat) desks d some is (All-unmap (IsSeatOf b) (λ (d : DeskView). d.seat) views settled.seats.each);
    order = first_of (IsInOrder p b.first) desks d some is settled.order;
    legal = subst (All (IsLegal p)) (sym first_empty) (All-nil (IsLegal p));
  }

-- after work at the first desk
module _ (p : Problem) (t : TicketsView) (b : BoardView) (tasks left : List (List ℕ)) (d x : DeskView) (works : WorksOff p tasks d left x) (same : IsSameDesk d x) where
  even_on : (ds : List DeskView) → MeetsEquation p [] (waiting_at tasks (d ∷ ds)) (closed_at (d ∷ ds)) → MeetsEquation p [] (waiting_at left (x ∷ ds)) (closed_at (x ∷ ds))
  even_on ds even q =
      let rest : List TreeNode = closed_at ds in
      let waiting : List (List ℕ) = flat_map (λ (d : DeskView). d.waiting) ds in
      omega (
        arith,
        even q,
        even_from p tasks d left x works q,
        standing_is [] (waiting_at tasks (d ∷ ds)) (closed_at (d ∷ ds)) q,
        standing_is [] (waiting_at left (x ∷ ds)) (closed_at (x ∷ ds)) q,
        count_of-append q tasks (d.waiting ++ waiting),
        count_of-append q left (x.waiting ++ waiting),
        count_of-append q d.waiting waiting,
        count_of-append q x.waiting waiting,
        ap (λ rs. count_of q (expected_of p rs)) works.records,
        ap (λ rs. count_of q (prefixes_of rs)) works.records,
        expected-append p q d.records works.added,
        prefixes-append p q d.records works.added,
        expected-append p q d.records rest,
        prefixes-append p q d.records rest,
        expected-append p q x.records rest,
        prefixes-append p q x.records rest,
      )

  settled_first : (ds : List DeskView) → IsInOrder p b.first x → IsSettled p t b tasks (d ∷ ds) → IsSettled p t b left (x ∷ ds)
  settled_first ds order settled =
      let tickets : List TicketView = map (λ (d : DeskView). d.ticket) ds in
      let seats : List SeatView = map (λ (d : DeskView). d.seat) ds in
      record {
        tickets = record {
          each = All-cons (IsTicketOf t) x.ticket tickets (ticket_same t d.ticket x.ticket same.tickets (All-head (IsTicketOf t) d.ticket tickets settled.tickets.each))
              (All-tail (IsTicketOf t) d.ticket tickets settled.tickets.each);
          all = omega (arith, settled.tickets.all, sum_by-cons (λ (s : TicketView). s.stands_for) d.ticket tickets, sum_by-cons (λ (s : TicketView). s.stands_for) x.ticket tickets, same.stands_for);
        };
        seats = record {
          each = All-cons (IsSeatOf b) x.seat seats (seat_same b d.seat x.seat same.seat.0 (All-head (IsSeatOf b) d.seat seats settled.seats.each))
              (All-tail (IsSeatOf b) d.seat seats settled.seats.each);
          all = omega (arith, settled.seats.all, sum_by-cons (λ (s : SeatView). s.stands) d.seat seats, sum_by-cons (λ (s : SeatView). s.stands) x.seat seats, same.seat.1);
        };
        order = All-cons (IsInOrder p b.first) x ds order (All-tail (IsInOrder p b.first) d ds settled.order);
        even = even_on ds settled.even;
      }

pub settled_on : (p : Problem) (t : TicketsView) (b : BoardView) (tasks left : List (List ℕ)) (desks : List Desk) (d x : Desk) → 0 < length desks → d ≡ get_or desks 0 d →
    IsSettled p t b tasks (map desk_view desks) → WorksOff p tasks (desk_view d) left (desk_view x) → IsSameDesk (desk_view d) (desk_view x) → IsInOrder p b.first (desk_view x) →
    IsSettled p t b left (map desk_view (set desks 0 x))
settled_on p t b tasks left [] d x some is settled works same order = absurd (omega (arith, some))
settled_on p t b tasks left (y ∷ desks) d x some is settled works same order =
    let before : IsSettled p t b tasks (desk_view d ∷ map desk_view desks) = subst (λ (z : Desk). IsSettled p t b tasks (desk_view z ∷ map desk_view desks)) (sym is) settled in
    settled_first p t b tasks left (desk_view d) (desk_view x) works same (map desk_view desks) order before

-- how the search ends after it
none_waits : (ds : List DeskView) → All (λ d. MayDraw d.ticket × (d.waiting ≡ [])) ds → flat_map (λ d. d.waiting) ds ≡ []
none_waits [] idle = refl
none_waits (d ∷ ds) idle =
    let P : DeskView → Type 0 = λ d. MayDraw d.ticket × (d.waiting ≡ []) in
    ap (λ (qs : List (List ℕ)). qs ++ flat_map (λ (d : DeskView). d.waiting) ds) (All-head P d ds idle).1 ∙ none_waits ds (All-tail P d ds idle)

pub ends_on : (end : Left) (left : List (List ℕ)) (desks : List Desk) (x : Desk) → 0 < length desks → LeaveDesks Idle (map desk_view desks) → EndsWork end left (desk_view x) →
    EndsSearch end left (map desk_view (set desks 0 x))
ends_on end left [] x some idle ends = absurd (omega (arith, some))
ends_on Idle left (y ∷ desks) x some idle ends =
    let P : DeskView → Type 0 = λ d. MayDraw d.ticket × (d.waiting ≡ []) in
    let others = none_waits (map desk_view desks) (All-tail P (desk_view y) (map desk_view desks) idle) in
    ap (λ (qs : List (List ℕ)). qs ++ (x.stack ++ flat_map (λ (d : DeskView). d.waiting) (map desk_view desks))) ends.1
    ∙ ap (λ (qs : List (List ℕ)). qs ++ flat_map (λ (d : DeskView). d.waiting) (map desk_view desks)) ends.2
    ∙ others
ends_on Full left (y ∷ desks) x some idle ends = (0, desk_view x, omega arith, refl, ends)
ends_on NoMemory left (y ∷ desks) x some idle ends = tt
