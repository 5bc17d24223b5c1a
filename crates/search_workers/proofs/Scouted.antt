-- A desk after a scout.
use Rattle.std.proofs.Common.{◌≡◌, ◌∙◌, ◌<◌, List, [], ℕ, length, inl, inr, sym, ap, subst, arith, All, AllPairs}
use Rattle.std.proofs.lemmas.Bool.{cases_Bool}
use Rattle.std.proofs.lemmas.List.Elements.{All-weaker}
use Rattle.search_model.specs.declared.standing.Standing.{Standing}
use Rattle.search_model.specs.Problem.{Problem, IsProblem}
use Rattle.search_model.specs.Legal.{IsLegal}
use Rattle.search_model.specs.Order.{better}
use Rattle.bound_tree.specs.declared.node.Kind.TheVariants.{Branch, Whole}
use Rattle.bound_tree.specs.declared.node.TreeNode.{TreeNode}
use Rattle.bound_tree.specs.Accepts.{IsGood}
use Rattle.bound_tree.specs.Close.{IsClosed, IsExact, IsAtLeast}
use Rattle.bound_tree.proofs.Closing.{at_least_trans}
use Rattle.path_node.specs.Room.{IsMadeFor}
use Rattle.search_core.proofs.FromBounds.{good_at_least}
use Rattle.steal_pool.specs.Kits.{KitView}
use Rattle.node_tickets.specs.Seats.{numbers_of}
use Rattle.incumbent_board.specs.History.{MayStand}
use Rattle.search_workers.specs.declared.left.Left.{Left}
use Rattle.search_workers.specs.Incumbents.{best_after, WasTold}
use Rattle.search_workers.specs.Desks.{DeskView, IsMade, HasRoom, IsInOrder, IsSameDesk}
use Rattle.search_workers.specs.Steps.{Scouts}
use Rattle.search_workers.specs.Workers.{WorkerView, IsReady, Went}
use Rattle.search_workers.proofs.Balanced.{stays_balanced}
use Rattle.search_workers.proofs.Mustered.{exact_fits}
use Rattle.search_workers.proofs.Worked.{same_then}

-- an exact standing may stand on a board that began with one
pub exact_may_stand : (p : Problem) (first s : Standing) → IsProblem p → IsExact p first → IsExact p s → MayStand first (record { path = s.path; value = s.value })
exact_may_stand p first s sound exact found = record { size = found.path.whole ∙ sym exact.path.whole; value = exact_fits p s sound found }

-- the better of two exact standings is exact
pub better_is_exact : (p : Problem) (s t : Standing) → IsExact p s → IsExact p t → IsExact p (best_after s t.path (Whole t.value))
better_is_exact p s t exact found = elim (cases_Bool (better (record { path = t.path; value = t.value }) s)) [
  | inl b ↦ rw b (record { path = found.path; value = found.value })
  | inr f ↦ rw f exact
]

-- how a scout left a desk
pub record Flown (p : Problem) (old new : DeskView) : Type 0 where
  pub scouts : Scouts old new
  pub exact : IsExact p new.last
  pub looks : (new.seat.looks ≡ old.seat.looks) × (new.seat.shown ≡ old.seat.shown)
  pub told : WasTold old.seat old.last → WasTold new.seat new.last
  pub tables : IsMadeFor p new.tables
  pub belief : new.belief ≡ old.belief

module _ (p : Problem) (first : Standing) (old new : DeskView) (sound : IsProblem p) (order : IsInOrder p first old) (h : Flown p old new) where
  pub flown_in_order : IsInOrder p first new
  flown_in_order =
      let before = order.sound [] [] [] in
      let records = h.scouts.stays.records in
      let up = h.scouts.last in
      let Open : TreeNode → Type 0 = λ t. t.kind ≡ Branch → IsClosed p first t.prefix Branch in
      record {
        sound = λ began put taken. record {
          exact = h.exact;
          up = at_least_trans new.last old.last first up before.up;
          good = subst (All (IsGood p new.last)) (sym records) (All-weaker (IsGood p old.last) (IsGood p new.last) (λ t g. good_at_least p old.last new.last t.prefix t.kind sound up g) old.records before.good);
          branches = subst (All Open) (sym records) before.branches;
        };
        made = subst (All (IsMade p first)) (sym records) order.made;
        counted = ap length records ∙ order.counted ∙ ap numbers_of (sym h.scouts.ticket);
        ascending = subst (λ t. AllPairs (λ m n. m < n) t.drawn) (sym h.scouts.ticket) order.ascending;
        looked = (let same = ap length records in omega (arith, same, order.looked, h.looks.0));
        heeded = λ exact. at_least_trans new.last old.last new.seat.shown up
            (subst (IsAtLeast old.last) (sym h.looks.1) (order.heeded (subst (IsExact p) h.looks.1 exact)));
        told = h.told order.told;
        room = subst HasRoom (sym h.scouts.stays.waiting) order.room;
        tables = h.tables;
        belief = ap (λ b. length b.masses) h.belief ∙ order.belief;
      }

-- a desk after a scout is the same desk
pub scouted_same : (old new : DeskView) → Scouts old new → IsSameDesk old new
scouted_same old new s = record {
  tickets = (ap (λ t. t.tickets) s.ticket, ap (λ t. t.limit) s.ticket);
  stands_for = ap (λ t. t.stands_for) s.ticket;
  seat = s.seat;
}

-- its worker is ready as before
pub scouted_ready : (p : Problem) (first : Standing) (kit : KitView (List ℕ)) (agenda : List (List ℕ)) (old new : DeskView) → Scouts old new → IsInOrder p first new →
    IsReady p first (record { kit = kit; agenda = agenda; desk = old }) → IsReady p first (record { kit = kit; agenda = agenda; desk = new })
scouted_ready p first kit agenda old new s order ready = record {
  order = order;
  legal = subst (All (IsLegal p)) (sym s.stays.waiting) ready.legal;
  balanced = stays_balanced p kit agenda old new ready.balanced s.stays;
}

-- what it does from there it did from the start
pub went_from : (p : Problem) (first : Standing) (kit : KitView (List ℕ)) (agenda : List (List ℕ)) (old mid : DeskView) (left : Left) (new : WorkerView) → Scouts old mid →
    Went p first (record { kit = kit; agenda = agenda; desk = mid }) left new → Went p first (record { kit = kit; agenda = agenda; desk = old }) left new
went_from p first kit agenda old mid left new s went = record {
  same = record { pool = went.same.pool; place = went.same.place; desk = same_then old mid new.desk (scouted_same old mid s) went.same.desk };
  balanced = went.balanced;
  order = went.order;
  leaves = went.leaves;
}
