-- What the workers bring back together.
use Rattle.std.proofs.Common.{◌≡◌, ℕ, suc, ◌+◌, ◌<◌, List, [], ◌∷◌, ◌++◌, map, length, get_or, refl, sym, ap, ◌∙◌, subst, arith, All, flat_map}
use Rattle.std.proofs.lemmas.List.{length-map, get_or-map}
use Rattle.std.proofs.lemmas.List.Elements.{All-map, All-weaker}
use Rattle.search_model.specs.declared.standing.Standing.{Standing}
use Rattle.search_model.specs.Problem.{Problem, IsProblem}
use Rattle.search_model.specs.Legal.{IsLegal}
use Rattle.list_laws.proofs.Members.{Contains-some}
use Rattle.bound_tree.specs.declared.node.TreeNode.{TreeNode}
use Rattle.steal_pool.specs.Kits.{KitView, put_of, taken_of}
use Rattle.steal_pool.specs.Pools.{EachAt, IsWhole}
use Rattle.search_core.specs.Counts.{count_of, SameItems}
use Rattle.search_core.specs.Balance.{MeetsEquation}
use Rattle.search_core.proofs.Counts.{count_of-append}
use Rattle.tree_gather.specs.Hauls.{Haul, IsHaulBalanced, records_of, waiting_of, idle_haul}
use Rattle.tree_gather.proofs.Hauls.{all_hauls_are_even}
use Rattle.tree_gather.proofs.Left.{tasks_wait, nothing_waits}
use Rattle.node_tickets.specs.Seats.{TicketsView, AreAllSeats as AreAllTickets, MayDraw}
use Rattle.incumbent_board.specs.Boards.{BoardView, AreAllSeats}
use Rattle.search_workers.specs.declared.crew.Member.{Member}
use Rattle.search_workers.specs.declared.left.Left.{Left}
use Rattle.search_workers.specs.declared.left.Left.TheVariants.{Idle, Full, NoMemory}
use Rattle.search_workers.specs.declared.desk.Desk.{Desk}
use Rattle.search_workers.specs.Desks.{DeskView, IsInOrder}
use Rattle.search_workers.specs.Seen.{desk_view}
use Rattle.search_workers.specs.Workers.{begun_by, haul_of, LeavesAs}
use Rattle.search_workers.specs.Crew.{IsComplete, HasGone, LeaveTogether}
use Rattle.search_workers.specs.Settled.{closed_at, waiting_at, IsSettled, LeaveDesks}
use Rattle.search_workers.proofs.Settling.{all_legal}
use Rattle.list_laws.proofs.Mapped.{map-map, flat_map-map, All-unmap}

-- the workers at places from a later one on began with nothing
others_began : (n : ℕ) (crew : List Member) → EachAt (map (λ m. m.worker.kit) crew) (λ i k. k.place ≡ suc (n + i)) → flat_map (λ m. begun_by m.worker.kit.place) crew ≡ []
others_began n [] each = refl
others_began n (m ∷ crew) each =
    let here : m.worker.kit.place ≡ suc (n + 0) = each 0 m.worker.kit refl in
    let rest = others_began (suc n) crew (λ i k at. let there = each (suc i) k at in omega (arith, there)) in
    ap (λ (n : ℕ). begun_by n ++ flat_map (λ (m : Member). begun_by m.worker.kit.place) crew) here ∙ rest

-- so the workers began with the empty prefix
crew_began : (crew : List Member) → 0 < length crew → IsWhole (map (λ m. m.worker.kit) crew) → flat_map (λ m. begun_by m.worker.kit.place) crew ≡ [] ∷ []
crew_began [] some whole = absurd (omega (arith, some))
crew_began (m ∷ crew) some whole =
    let here : m.worker.kit.place ≡ 0 = (whole.each 0 m.worker.kit refl).1 in
    let others = others_began 0 crew (λ i k at. let there = (whole.each (suc i) k at).1 in omega (arith, there)) in
    ap (λ (n : ℕ). begun_by n ++ flat_map (λ (m : Member). begun_by m.worker.kit.place) crew) here ∙ ap (λ (qs : List (List ℕ)). ([] ∷ []) ++ qs) others

-- what all put into their deques, and what all have on their agendas, is what all put
put_together : (crew : List Member) (q : List ℕ) →
    count_of q (flat_map (λ m. (haul_of m.worker).put) crew) ≡ count_of q (flat_map (λ m. put_of m.worker.kit) crew) + count_of q (flat_map (λ m. m.worker.agenda) crew)
put_together [] q = refl
put_together (m ∷ crew) q =
    omega (
      arith,
      put_together crew q,
      count_of-append q (put_of m.worker.kit ++ m.worker.agenda) (flat_map (λ m. (haul_of m.worker).put) crew),
      count_of-append q (put_of m.worker.kit) m.worker.agenda,
      count_of-append q (put_of m.worker.kit) (flat_map (λ m. put_of m.worker.kit) crew),
      count_of-append q m.worker.agenda (flat_map (λ m. m.worker.agenda) crew),
    )

abbrev hauls : List Member → List Haul
hauls crew = map (λ m. haul_of m.worker) crew

module _ (p : Problem) (t : TicketsView) (b : BoardView) (crew : List Member) (tasks : List (List ℕ)) (complete : IsComplete t b crew) (gone : All (HasGone p b.first) crew) where
  abbrev desks : List DeskView
  desks = map (λ m. m.worker.desk) crew

  -- their hauls and the tasks left meet the balance equation
  even_crew : 0 < length crew → SameItems (flat_map put_of (map (λ m. m.worker.kit) crew) ++ flat_map (λ m. m.worker.agenda) crew) (flat_map taken_of (map (λ m. m.worker.kit) crew) ++ tasks) →
      MeetsEquation p [] (waiting_at tasks desks) (closed_at desks)
  even_crew some left =
      let kit : Member → KitView (List ℕ) = λ m. m.worker.kit in
      let haul : Member → Haul = λ m. haul_of m.worker in
      let desk : Member → DeskView = λ m. m.worker.desk in
      let balanced = All-map (IsHaulBalanced p) haul crew (All-weaker (HasGone p b.first) (λ m. IsHaulBalanced p (haul_of m.worker)) (λ m g. g.balanced) crew gone) in
      let began : flat_map (λ h. h.began) (hauls crew) ≡ [] ∷ [] = flat_map-map (λ (h : Haul). h.began) haul crew ∙ crew_began crew some complete.kits in
      let agenda : Member → List (List ℕ) = λ m. m.worker.agenda in
      let put : flat_map put_of (map kit crew) ≡ flat_map (λ m. put_of m.worker.kit) crew = flat_map-map put_of kit crew in
      let both : flat_map (λ h. h.put) (hauls crew) ≡ flat_map (λ m. (haul_of m.worker).put) crew = flat_map-map (λ (h : Haul). h.put) haul crew in
      let taken : flat_map taken_of (map kit crew) ≡ flat_map (λ h. h.taken) (hauls crew) = flat_map-map taken_of kit crew ∙ sym (flat_map-map (λ (h : Haul). h.taken) haul crew) in
      let same : SameItems (flat_map (λ h. h.put) (hauls crew)) (flat_map (λ h. h.taken) (hauls crew) ++ tasks) = λ q.
      omega (
        arith,
        left q,
        put_together crew q,
        ap (count_of q) put,
        ap (count_of q) both,
        ap (count_of q) taken,
        count_of-append q (flat_map put_of (map kit crew)) (flat_map agenda crew),
        count_of-append q (flat_map taken_of (map kit crew)) tasks,
        count_of-append q (flat_map (λ h. h.taken) (hauls crew)) tasks,
      ) in
      let even = all_hauls_are_even p tasks (idle_haul b.first tasks ∷ hauls crew)
      (tasks_wait p b.first tasks (hauls crew) balanced (λ q. ap (count_of q) began) same) in
      let waiting : waiting_of (hauls crew) ≡ flat_map (λ d. d.waiting) desks = flat_map-map (λ (h : Haul). h.waiting) haul crew ∙ sym (flat_map-map (λ (d : DeskView). d.waiting) desk crew) in
      let records : records_of (hauls crew) ≡ closed_at desks = flat_map-map (λ (h : Haul). h.records) haul crew ∙ sym (flat_map-map (λ (d : DeskView). d.records) desk crew) in
      subst (λ (rs : List TreeNode). MeetsEquation p [] (waiting_at tasks desks) rs) records
      (subst (λ (qs : List (List ℕ)). MeetsEquation p [] (tasks ++ qs) (records_of (hauls crew))) waiting even)

  order_crew : All (IsInOrder p b.first) desks
  order_crew = All-map (IsInOrder p b.first) (λ (m : Member). m.worker.desk) crew (All-weaker (HasGone p b.first) (λ m. IsInOrder p b.first m.worker.desk) (λ m g. g.order) crew gone)

  pub settled_crew : 0 < length crew → SameItems (flat_map put_of (map (λ m. m.worker.kit) crew) ++ flat_map (λ m. m.worker.agenda) crew) (flat_map taken_of (map (λ m. m.worker.kit) crew) ++ tasks) →
      IsSettled p t b tasks desks
  settled_crew some left = record {
    tickets = subst (AreAllTickets t) (sym (map-map (λ (d : DeskView). d.ticket) (λ (m : Member). m.worker.desk) crew)) complete.tickets;
    seats = subst (AreAllSeats b) (sym (map-map (λ (d : DeskView). d.seat) (λ (m : Member). m.worker.desk) crew)) complete.seats;
    order = order_crew;
    even = even_crew some left;
  }

-- the seats of a complete crew are all at its desks, wherever these stand
module _ (t : TicketsView) (b : BoardView) (crew : List Member) (ds : List DeskView) (at : ds ≡ map (λ m. m.worker.desk) crew) (complete : IsComplete t b crew) where
  pub tickets_at : AreAllTickets t (map (λ d. d.ticket) ds)
  tickets_at =
      subst (λ (ds : List DeskView). AreAllTickets t (map (λ d. d.ticket) ds)) (sym at)
      (subst (AreAllTickets t) (sym (map-map (λ (d : DeskView). d.ticket) (λ (m : Member). m.worker.desk) crew)) complete.tickets)

  pub seats_at : AreAllSeats b (map (λ d. d.seat) ds)
  seats_at =
      subst (λ (ds : List DeskView). AreAllSeats b (map (λ d. d.seat) ds)) (sym at)
      (subst (AreAllSeats b) (sym (map-map (λ (d : DeskView). d.seat) (λ (m : Member). m.worker.desk) crew)) complete.seats)

-- and there are as many desks as workers
pub many_at : (crew : List Member) (desks : List Desk) → map desk_view desks ≡ map (λ m. m.worker.desk) crew → length desks ≡ length crew
many_at crew desks at = sym (length-map desks (λ (d : Desk). desk_view d)) ∙ ap length at ∙ length-map crew (λ (m : Member). m.worker.desk)

-- a worker that left idle has nothing waiting
idle_desk : (p : Problem) (first : Standing) (m : Member) → HasGone p first m → m.left ≡ Idle → All (IsLegal p) m.worker.desk.waiting → MayDraw m.worker.desk.ticket × (m.worker.desk.waiting ≡ [])
idle_desk p first m gone idle legal =
    let leaves = subst (LeavesAs p m.worker) idle gone.leaves in
    (leaves.0, nothing_waits (IsLegal p) m.worker.desk.waiting legal leaves.1)

idle_desks : (p : Problem) (first : Standing) (crew : List Member) → All (HasGone p first) crew → All (λ m. m.left ≡ Idle) crew → All (λ d. All (IsLegal p) d.waiting) (map (λ m. m.worker.desk) crew) →
    All (λ d. MayDraw d.ticket × (d.waiting ≡ [])) (map (λ m. m.worker.desk) crew)
idle_desks p first crew gone idle legal =
    let desk : Member → DeskView = λ m. m.worker.desk in
    All-map (λ d. MayDraw d.ticket × (d.waiting ≡ [])) desk crew (λ k m here.
    idle_desk p first (get_or crew k m) (gone k m here) (idle k m here) (All-unmap (λ (d : DeskView). All (IsLegal p) d.waiting) desk crew legal k m here))

-- and one that left full has
full_desk : (p : Problem) (first : Standing) (crew : List Member) (k : ℕ) (m : Member) → All (HasGone p first) crew → k < length crew → get_or crew k m ≡ m → m.left ≡ Full →
    LeaveDesks Full (map (λ m. m.worker.desk) crew)
full_desk p first crew k m gone within at full =
    let here : HasGone p first m = subst (HasGone p first) at (gone k m within) in
    let leaves = subst (LeavesAs p m.worker) full here.leaves in
    let desk : Member → DeskView = λ m. m.worker.desk in
    (k, m.worker.desk, omega (arith, within, length-map crew desk), get_or-map desk crew k m m.worker.desk within ∙ ap desk at, (leaves.0, Contains-some m.worker.desk.waiting leaves.1.0 leaves.1.1))

pub left_desks : (p : Problem) (t : TicketsView) (b : BoardView) (crew : List Member) (tasks : List (List ℕ)) (left : Left) → IsProblem p → All (HasGone p b.first) crew →
    IsSettled p t b tasks (map (λ m. m.worker.desk) crew) → LeaveTogether crew left → LeaveDesks left (map (λ m. m.worker.desk) crew)
left_desks p t b crew tasks Idle sound gone settled together =
    idle_desks p b.first crew gone together (all_legal p b.first tasks (map (λ m. m.worker.desk) crew) sound settled.order settled.even).1
left_desks p t b crew tasks Full sound gone settled ((k, m, within, at, full), enough) = full_desk p b.first crew k m gone within at full
left_desks p t b crew tasks NoMemory sound gone settled together = tt
