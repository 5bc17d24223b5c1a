-- What settled desks come to together.
use Rattle.std.proofs.Common.{◌≡◌, ◌≢◌, ℕ, zero, suc, ◌<◌, List, [], ◌∷◌, ◌++◌, map, length, get_or, refl, sym, ap, ◌∙◌, subst, inl, arith, All, flat_map, sum_by, length-append, Result, Ok, Err}
use Rattle.std.proofs.lemmas.List.{length-map, get_or-map}
use Rattle.std.proofs.lemmas.List.Elements.{All-nil, All-cons, All-head, All-tail, All-map, All-weaker}
use Rattle.std.proofs.lemmas.List.Sums.{sum_by-cons}
use Rattle.search_model.specs.declared.standing.Standing.{Standing}
use Rattle.search_model.specs.Problem.{Problem, IsProblem}
use Rattle.bound_tree.specs.declared.node.TreeNode.{TreeNode}
use Rattle.bound_tree.specs.Accepts.{IsGood}
use Rattle.bound_tree.specs.Close.{IsExact, HasMoreLive}
use Rattle.search_core.specs.Balance.{MeetsEquation}
use Rattle.tree_gather.specs.Hauls.{Haul, IsHaulSound, records_of, waiting_of, lasts_of, idle_haul, IsBestOf, AreJoined}
use Rattle.tree_gather.proofs.Joined.{even_hauls_are_joined, joined_are_live, waiting_have_more}
use Rattle.node_tickets.specs.Seats.{TicketsView, SeatView as TicketView, numbers_of}
use Rattle.incumbent_board.specs.Boards.{BoardView}
use Rattle.search_workers.specs.declared.answer.Found.{Found}
use Rattle.search_workers.specs.declared.answer.SearchStop.{SearchStop}
use Rattle.search_workers.specs.declared.answer.SearchStop.TheVariants.{NoMemory, Full}
use Rattle.search_workers.specs.declared.harvest.Harvest.{Harvest}
use Rattle.search_workers.specs.declared.left.Left.{Left}
use Rattle.search_workers.specs.declared.left.Left.TheVariants as left
use Rattle.search_workers.specs.Desks.{DeskView, haul_at, IsInOrder}
use Rattle.search_workers.specs.Settled.{closed_at, waiting_at, lasts_at, IsSettled, EndsSearch, WithMemory}
use Rattle.search_workers.specs.Search.{IfFull, StopsAtLimit}
use Rattle.search_workers.specs.Harvests.{EndsHarvest}
use Rattle.list_laws.proofs.Mapped.{flat_map-map, map-map}

-- what the desks bring back, and the tasks left
abbrev hauls_at : Standing → List (List ℕ) → List DeskView → List Haul
hauls_at first tasks desks = idle_haul first tasks ∷ map (λ d. haul_at d [] [] []) desks

-- tasks that wait are a sound haul
idle_is_sound : (p : Problem) (first : Standing) (tasks : List (List ℕ)) → IsExact p first → IsHaulSound p first (idle_haul first tasks)
idle_is_sound p first tasks exact = record { exact = exact; up = inl refl; good = All-nil (IsGood p first); branches = λ k d l. absurd (omega (arith, l)) }

pub joined_at : (p : Problem) (t : TicketsView) (b : BoardView) (first best : Standing) (tasks : List (List ℕ)) (desks : List DeskView) → IsProblem p → IsExact p first → b.first ≡ first →
    IsSettled p t b tasks desks → IsBestOf (lasts_at first desks) best → AreJoined p first best (waiting_at tasks desks) (closed_at desks)
joined_at p t b first best tasks desks sound exact same settled best_of =
    let haul : DeskView → Haul = λ d. haul_at d [] [] [] in
    let order : All (IsInOrder p first) desks = subst (λ (s : Standing). All (IsInOrder p s) desks) same settled.order in
    let sounds : All (IsHaulSound p first) (map haul desks) = All-map (IsHaulSound p first) haul desks (All-weaker (IsInOrder p first) (λ d. IsHaulSound p first (haul_at d [] [] [])) (λ d o. o.sound [] [] []) desks order) in
    let waiting : waiting_of (map haul desks) ≡ flat_map (λ d. d.waiting) desks = flat_map-map (λ (h : Haul). h.waiting) haul desks in
    let records : records_of (map haul desks) ≡ closed_at desks = flat_map-map (λ (h : Haul). h.records) haul desks in
    let lasts : lasts_of (map haul desks) ≡ map (λ d. d.last) desks = map-map (λ (h : Haul). h.last) haul desks in
    let even : MeetsEquation p [] (tasks ++ waiting_of (map haul desks)) (records_of (map haul desks)) = rw (waiting, records) settled.even in
    let joined = even_hauls_are_joined p first best (hauls_at first tasks desks) sound even
    (All-cons (IsHaulSound p first) (idle_haul first tasks) (map haul desks) (idle_is_sound p first tasks exact) sounds)
    (subst (λ (ss : List Standing). IsBestOf (first ∷ ss) best) (sym lasts) best_of) in
    subst (λ (rs : List TreeNode). AreJoined p first best (waiting_at tasks desks) rs) records
    (subst (λ (qs : List (List ℕ)). AreJoined p first best (tasks ++ qs) (records_of (map haul desks))) waiting joined)

-- as many records as numbers below the limit were drawn
pub counted_at : (p : Problem) (first : Standing) (desks : List DeskView) → All (IsInOrder p first) desks → length (closed_at desks) ≡ sum_by numbers_of (map (λ d. d.ticket) desks)
counted_at p first [] order = refl
counted_at p first (d ∷ ds) order =
    omega (
      arith,
      length-append d.records (closed_at ds),
      sum_by-cons numbers_of d.ticket (map (λ (d : DeskView). d.ticket) ds),
      (All-head (IsInOrder p first) d ds order).counted,
      counted_at p first ds (All-tail (IsInOrder p first) d ds order),
    )

-- how it ended
some_waits : (tasks : List (List ℕ)) (desks : List DeskView) (k : ℕ) (d : DeskView) → k < length desks → get_or desks k d ≡ d → 0 < length d.waiting → 0 < length (waiting_at tasks desks)
some_waits tasks [] k d within at some = absurd (omega (arith, within))
some_waits tasks (e ∷ ds) zero d within at some =
    let same : length e.waiting ≡ length d.waiting = ap (λ (d : DeskView). length d.waiting) at in
    let rest : List (List ℕ) = flat_map (λ (d : DeskView). d.waiting) ds in
    omega (arith, some, same, length-append tasks (e.waiting ++ rest), length-append e.waiting rest)
some_waits tasks (e ∷ ds) (suc k) d within at some =
    let rest : List (List ℕ) = flat_map (λ (d : DeskView). d.waiting) ds in
    let later = some_waits tasks ds k d (omega (arith, within)) at some in
    omega (arith, later, length-append tasks (e.waiting ++ rest), length-append e.waiting rest, length-append tasks rest)

pub ends_at : (end : Left) (tasks : List (List ℕ)) (desks : List DeskView) (h : Harvest) → EndsSearch end tasks desks → h.waiting.items ≡ waiting_at tasks desks →
    h.tickets.items ≡ map (λ d. d.ticket) desks → EndsHarvest end h
ends_at left.Idle tasks desks h ends waiting tickets = waiting ∙ ends
ends_at left.Full tasks desks h (k, d, within, at, (drew, some)) waiting tickets =
    let ticket : DeskView → TicketView = λ d. d.ticket in (
      (let here = some_waits tasks desks k d within at some in omega (arith, here, ap length waiting)),
      (
        k,
        d.ticket,
        omega (arith, within, ap length tickets, length-map desks ticket),
        ap (λ (ts : List TicketView). get_or ts k d.ticket) tickets ∙ get_or-map ticket desks k d d.ticket within ∙ ap ticket at,
        drew,
      ),
    )
ends_at left.NoMemory tasks desks h ends waiting tickets = tt

-- a fact of a search whose end isn't that memory ran out
pub with_memory : (end : Left) (P : Type 0) → P → WithMemory end P
with_memory left.Idle P known = known
with_memory left.Full P known = known
with_memory left.NoMemory P known = tt

pub known_with : (end : Left) (P : Type 0) → end ≢ left.NoMemory → WithMemory end P → P
known_with left.Idle P other known = known
known_with left.Full P other known = known
known_with left.NoMemory P other known = absurd (other refl)

-- what stands when the records ran out follows from three facts of it
module _ (p : Problem) (first : Standing) (nodes : ℕ) (sound : IsProblem p) where
  pub stops_at_limit : (r : Result Found SearchStop) → IfFull r (λ part. length part.closed.items ≡ nodes) → IfFull r (λ part. 0 < length part.waiting.items) →
      IfFull r (λ part. AreJoined p first part.best part.waiting.items part.closed.items) → IfFull r (StopsAtLimit p first nodes)
  stops_at_limit (Ok found) many some joined = tt
  stops_at_limit (Err NoMemory) many some joined = tt
  stops_at_limit (Err (Full part)) many some joined =
      let (once, live) = joined_are_live p first part.best part.waiting.items part.closed.items sound joined in
      record {
        more = subst (HasMoreLive p first) many (waiting_have_more p first part.best part.waiting.items part.closed.items sound joined some);
        closed = many;
        waits = some;
        once = once;
        live = live;
        exact = joined.exact;
        up = joined.up;
        joined = joined;
      }
