-- The balance of what the calling thread does over the tasks left.
use Rattle.std.proofs.Common.{◌≡◌, ◌≢◌, ℕ, ◌+◌, ◌-◌, ◌<◌, List, [], ◌∷◌, ◌++◌, reverse, length, refl, sym, ap, ◌∙◌, subst, arith, false, All, append_assoc, append-nil, length-append}
use Rattle.std.proofs.lemmas.List.{length-map}
use Rattle.std.proofs.lemmas.List.Elements.{All-nil, All-cons}
use Rattle.std.proofs.lemmas.List.Sorted.{IsPermutation-reverse}
use Rattle.search_model.specs.declared.standing.Standing.{Standing}
use Rattle.search_model.specs.Problem.{Problem, IsProblem}
use Rattle.search_model.specs.Legal.{IsLegal, moves_after}
use Rattle.bound_tree.specs.declared.node.Kind.{Kind}
use Rattle.bound_tree.specs.declared.node.Kind.TheVariants.{Branch}
use Rattle.bound_tree.specs.declared.node.TreeNode.{TreeNode}
use Rattle.bound_tree.specs.Accepts.{children_of, expected_by, prefixes_of}
use Rattle.search_core.specs.Counts.{count_of, SameItems}
use Rattle.search_core.specs.Balance.{expected_of}
use Rattle.search_core.proofs.Counts.{count_of-append, SameItems-permutation}
use Rattle.search_core.proofs.Children.{expected-append, prefixes-append}
use Rattle.tree_gather.proofs.Hauls.{three_lists}
use Rattle.steal_pool.specs.Kits.{KitView}
use Rattle.node_tickets.specs.Seats.{TicketsView, MayDraw}
use Rattle.incumbent_board.specs.Boards.{BoardView}
use Rattle.search_workers.specs.Desks.{DeskView, IsInOrder, IsSameDesk, HasRoom}
use Rattle.search_workers.specs.Steps.{Records}
use Rattle.search_workers.specs.Finish.{MayClose, WorksOff}
use Rattle.search_workers.proofs.Gone.{ticket_same, seat_same}
use Rattle.search_workers.proofs.Balanced.{expects_nothing}
use Rattle.search_workers.proofs.Disposed.{waits, room_wait, all_wait}
use Rattle.search_workers.proofs.Limits.{few_records}
use Rattle.search_workers.proofs.Ready.{order_with, legal_children, longer_children, last_legal, rest_legal, last_room, branch_short}
use Rattle.search_model.proofs.Children.{few_moves}

-- the balance of such work, counted
abbrev IsEvenWork : Problem → List (List ℕ) → List (List ℕ) → List TreeNode → List (List ℕ) → List (List ℕ) → List ℕ → Type 0
IsEvenWork p tasks waiting added left waiting' q =
    count_of q tasks + count_of q waiting + count_of q (expected_of p added) ≡ count_of q (prefixes_of added) + count_of q left + count_of q waiting'

module _ (p : Problem) (tasks : List (List ℕ)) (old : DeskView) (left : List (List ℕ)) (new : DeskView) where
  pub even_from : (w : WorksOff p tasks old left new) (q : List ℕ) → IsEvenWork p tasks old.waiting w.added left new.waiting q
  even_from w q =
      omega (
        arith,
        w.balanced.same q,
        three_lists q (tasks ++ old.waiting) [] (expected_of p w.added),
        three_lists q (prefixes_of w.added) (left ++ new.waiting) [],
        count_of-append q tasks old.waiting,
        count_of-append q left new.waiting,
      )

  works_from : (added : List TreeNode) → new.records ≡ old.records ++ added → ((q : List ℕ) → IsEvenWork p tasks old.waiting added left new.waiting q) → WorksOff p tasks old left new
  works_from added records even = record {
    added = added;
    records = records;
    balanced = record {
      same = λ q. omega (
        arith,
        even q,
        three_lists q (tasks ++ old.waiting) [] (expected_of p added),
        three_lists q (prefixes_of added) (left ++ new.waiting) [],
        count_of-append q tasks old.waiting,
        count_of-append q left new.waiting,
      );
    };
  }

-- where nothing was done
pub works_none : (p : Problem) (tasks : List (List ℕ)) (old new : DeskView) → new.records ≡ old.records → new.waiting ≡ old.waiting → WorksOff p tasks old tasks new
works_none p tasks old new records waiting =
    works_from p tasks old tasks new [] (records ∙ sym (append-nil old.records)) (λ q. omega (arith, ap (count_of q) waiting))

-- where a prefix was closed, and what it makes expected waits
pub works_one : (p : Problem) (old mid new : DeskView) (q : List ℕ) (kind : Kind) → Records old q kind mid → new.records ≡ mid.records →
    SameItems new.waiting (mid.waiting ++ expected_by p q kind) → WorksOff p [] old [] new
works_one p old mid new q kind recorded records waiting =
    let node : TreeNode = record { prefix = q; kind = kind } in
    works_from p [] old [] new (node ∷ []) (records ∙ recorded.records) (λ r.
    omega (
      arith,
      ap (count_of r) recorded.waited,
      count_of-append r mid.waiting (q ∷ []),
      count_of-append r (expected_by p q kind) [],
      waiting r,
      count_of-append r mid.waiting (expected_by p q kind),
    ))

-- where one work follows on another
pub works_then : (p : Problem) (tasks : List (List ℕ)) (a : DeskView) (mid : List (List ℕ)) (b : DeskView) (left : List (List ℕ)) (c : DeskView) →
    WorksOff p tasks a mid b → WorksOff p mid b left c → WorksOff p tasks a left c
works_then p tasks a mid b left c v w =
    works_from p tasks a left c (v.added ++ w.added) (w.records ∙ ap (λ rs. rs ++ w.added) v.records ∙ append_assoc a.records v.added w.added) (λ q.
    omega (arith, even_from p tasks a mid b v q, even_from p mid b left c w q, expected-append p q v.added w.added, prefixes-append p q v.added w.added))

-- beside tasks that it doesn't touch
pub works_beside : (p : Problem) (tasks : List (List ℕ)) (old new : DeskView) → WorksOff p [] old [] new → WorksOff p tasks old tasks new
works_beside p tasks old new w = works_from p tasks old tasks new w.added w.records (λ q. omega (arith, even_from p [] old [] new w q))

-- where the last task was taken up, and waits
pub works_take : (p : Problem) (tasks rest : List (List ℕ)) (task : List ℕ) (old new : DeskView) → tasks ≡ rest ++ task ∷ [] → new.records ≡ old.records →
    new.waiting ≡ old.waiting ++ task ∷ [] → WorksOff p tasks old rest new
works_take p tasks rest task old new taken records waiting =
    works_from p tasks old rest new [] (records ∙ sym (append-nil old.records)) (λ q.
    omega (arith, ap (count_of q) taken, ap (count_of q) waiting, count_of-append q rest (task ∷ []), count_of-append q old.waiting (task ∷ [])))

-- a prefix that ends makes nothing expected
pub works_end : (p : Problem) (old new : DeskView) (q : List ℕ) (kind : Kind) → kind ≢ Branch → Records old q kind new → WorksOff p [] old [] new
works_end p old new q kind other recorded =
    works_one p old new new q kind recorded refl (λ r. omega (arith, ap (count_of r) (expects_nothing p q kind other), count_of-append r new.waiting (expected_by p q kind)))

-- and all children of a prefix that branches wait
pub works_branch : (p : Problem) (old mid : DeskView) (q : List ℕ) (ws : List (List ℕ)) → Records old q Branch mid → ws ≡ mid.waiting ++ reverse (children_of p q) →
    WorksOff p [] old [] (record mid { waiting = ws })
works_branch p old mid q ws recorded stacked =
    works_one p old mid (record mid { waiting = ws }) q Branch recorded refl (λ r.
    omega (
      arith,
      ap (count_of r) stacked,
      count_of-append r mid.waiting (reverse (children_of p q)),
      count_of-append r mid.waiting (children_of p q),
      SameItems-permutation (children_of p q) (reverse (children_of p q)) (IsPermutation-reverse (children_of p q)) r,
    ))

-- the desk is in order with these children, and they are legal
module _ (p : Problem) (first : Standing) (old mid : DeskView) (q : List ℕ) (ws : List (List ℕ)) (sound : IsProblem p) (legal : All (IsLegal p) old.waiting) (room : HasRoom old.waiting)
    (order : IsInOrder p first mid) (recorded : Records old q Branch mid) (stacked : ws ≡ mid.waiting ++ reverse (children_of p q)) where
  -- no kit has a part in it
  no_kit : KitView (List ℕ)
  no_kit = record { pool = []; place = 0; hands = []; misses = 0 }

  legal_here : IsLegal p q
  legal_here = last_legal p old.waiting mid.waiting q recorded.waited legal

  pub branch_in_order : IsInOrder p first (record mid { waiting = ws })
  branch_in_order =
      let w = waits (children_of p q) false no_kit mid.waiting no_kit ws (refl, stacked) in
      order_with p first mid ws order
      (room_wait (children_of p q) mid.waiting ws (length q) w order.room (last_room old.waiting mid.waiting q recorded.waited room)
      (rw (length-map (moves_after p q) (λ d. q ++ d ∷ [])) (few_moves p q sound legal_here)) (longer_children p q))

  pub branch_legal : All (IsLegal p) ws
  branch_legal =
      all_wait (IsLegal p) (children_of p q) mid.waiting ws (waits (children_of p q) false no_kit mid.waiting no_kit ws (refl, stacked))
      (rest_legal p old.waiting mid.waiting q recorded.waited legal) (legal_children p q legal_here (branch_short p first old mid q order recorded))

-- prefixes may still be closed at a desk that has its seats and may draw
pub still_may : (p : Problem) (t : TicketsView) (b : BoardView) (old new : DeskView) → MayClose p t b old → IsSameDesk old new → MayDraw new.ticket → IsInOrder p b.first new →
    All (IsLegal p) new.waiting → MayClose p t b new
still_may p t b old new before same may order legal = record {
  ticket = ticket_same t old.ticket new.ticket same.tickets before.ticket;
  may = may;
  seat = seat_same b old.seat new.seat same.seat.0 before.seat;
  order = order;
  legal = legal;
}

-- one record more
pub recorded_one : (old mid new : DeskView) (q : List ℕ) (kind : Kind) → Records old q kind mid → new.records ≡ mid.records → length new.records ≡ length old.records + 1
recorded_one old mid new q kind recorded same = ap length (same ∙ recorded.records) ∙ length-append old.records (record { prefix = q; kind = kind } ∷ [])

-- what is left of what waits is legal
pub end_legal : (p : Problem) (old new : DeskView) (q : List ℕ) (kind : Kind) → Records old q kind new → All (IsLegal p) old.waiting → All (IsLegal p) new.waiting
end_legal p old new q kind recorded legal = rest_legal p old.waiting new.waiting q recorded.waited legal

-- the same desk later still
pub same_then : (a b c : DeskView) → IsSameDesk a b → IsSameDesk b c → IsSameDesk a c
same_then a b c s t = record {
  tickets = (t.tickets.0 ∙ s.tickets.0, t.tickets.1 ∙ s.tickets.1);
  stands_for = t.stands_for ∙ s.stands_for;
  seat = (t.seat.0 ∙ s.seat.0, t.seat.1 ∙ s.seat.1);
}

-- each record leaves room for fewer
pub fewer_left : (p : Problem) (t : TicketsView) (b : BoardView) (new : DeskView) (before : ℕ) → MayClose p t b new → length new.records ≡ before + 1 →
    t.limit + 1 - length new.records < t.limit + 1 - before
fewer_left p t b new before may more =
    let few = few_records p b.first new may.order may.may in
    let limit = may.ticket.1 in
    omega (arith, few, more, limit)

one_has_room : (q : List ℕ) → HasRoom (q ∷ [])
one_has_room q k d l = omega (arith, l)

module _ (p : Problem) (t : TicketsView) (b : BoardView) (d : DeskView) (tasks rest ws : List (List ℕ)) (task : List ℕ)
    (may : MayClose p t b d) (empty : d.waiting ≡ []) (taken : tasks ≡ rest ++ task ∷ []) (legal : All (IsLegal p) tasks) (stacked : ws ≡ d.waiting ++ task ∷ []) where
  alone : ws ≡ task ∷ []
  alone = stacked ∙ ap (λ xs. xs ++ task ∷ []) empty

  -- a task that is taken up may be closed
  pub may_take : MayClose p t b (record d { waiting = ws })
  may_take = record {
    ticket = may.ticket;
    may = may.may;
    seat = may.seat;
    order = order_with p b.first d ws may.order (subst HasRoom (sym alone) (one_has_room task));
    legal = subst (All (IsLegal p)) (sym alone) (All-cons (IsLegal p) task [] (last_legal p tasks rest task taken legal) (All-nil (IsLegal p)));
  }

  pub still_legal : All (IsLegal p) rest
  still_legal = rest_legal p tasks rest task taken legal

  -- the work goes on with it
  pub works_on : (first : List (List ℕ)) (old new : DeskView) → WorksOff p first old tasks d → WorksOff p [] (record d { waiting = ws }) [] new → WorksOff p first old rest new
  works_on first old new so_far more =
      let mid : DeskView = record d { waiting = ws } in
      works_then p first old tasks d rest new so_far
      (works_then p tasks d rest mid rest new (works_take p tasks rest task d mid taken refl stacked) (works_beside p rest mid new more))

  pub same_on : (old new : DeskView) → IsSameDesk old d → IsSameDesk (record d { waiting = ws }) new → IsSameDesk old new
  same_on old new s more = record {
    tickets = (more.tickets.0 ∙ s.tickets.0, more.tickets.1 ∙ s.tickets.1);
    stands_for = more.stands_for ∙ s.stands_for;
    seat = (more.seat.0 ∙ s.seat.0, more.seat.1 ∙ s.seat.1);
  }
