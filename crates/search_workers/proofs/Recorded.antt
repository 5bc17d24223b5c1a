-- A desk stays in order.
use Rattle.std.proofs.Common.{◌≡◌, ℕ, ◌+◌, ◌-◌, ◌<◌, ◌^◌, ◌∙◌, min, false, List, [], ◌∷◌, ◌++◌, length, sym, ap, subst, arith, All, AllPairs, length-append}
use Rattle.std.proofs.lemmas.List.Elements.{All-push, All-weaker, All-contains}
use Rattle.std.proofs.lemmas.List.Quantifiers.{all_pairs_push}
use Rattle.std.proofs.lemmas.List.{get_or_append_left}
use Rattle.search_model.specs.declared.standing.Standing.{Standing}
use Rattle.search_model.specs.Problem.{Problem, IsProblem}
use Rattle.search_model.specs.Legal.{IsLegal}
use Rattle.search_model.specs.Order.{better}
use Rattle.bound_tree.specs.declared.node.Kind.{Kind}
use Rattle.bound_tree.specs.declared.node.Kind.TheVariants.{Branch}
use Rattle.bound_tree.specs.declared.node.TreeNode.{TreeNode}
use Rattle.bound_tree.specs.Accepts.{IsGood}
use Rattle.bound_tree.specs.Close.{IsClosed, IsExact, IsAtLeast}
use Rattle.bound_tree.proofs.Closing.{at_least_trans, branch_at_least, closed_is_good}
use Rattle.path_node.specs.Room.{IsMadeFor}
use Rattle.search_core.proofs.FromBounds.{good_at_least}
use Rattle.node_tickets.specs.Seats.{MayDraw, numbers_of}
use Rattle.search_workers.specs.Incumbents.{best_after, WasTold}
use Rattle.search_workers.specs.Desks.{DeskView, IsMade, HasRoom, IsInOrder}
use Rattle.search_workers.specs.declared.closing.Closing.{Closing}
use Rattle.search_workers.specs.declared.closing.Closing.TheVariants.{Branches, Ends, Full, NoMemory}
use Rattle.search_workers.specs.Steps.{Records, ClosesUnder, MakesRecord, Closes}
use Rattle.list_laws.proofs.Wholes.{Contains-last}
use Rattle.search_workers.proofs.Standings.{after_is_up, after_unbeaten, after_is_exact}

-- a number that is greater than all that were drawn keeps them ascending
ascend-push : (ms : List ℕ) (n : ℕ) → AllPairs (λ m n. m < n) ms → All (λ m. m < n) ms → AllPairs (λ m n. m < n) (ms ++ n ∷ [])
ascend-push ms n up greater = all_pairs_push (λ m n. m < n) ms n up greater

-- what is left of what waits has room
pub room_left : (ws : List (List ℕ)) (q : List ℕ) → HasRoom (ws ++ q ∷ []) → HasRoom ws
room_left ws q room k d l =
    let within : k < length (ws ++ q ∷ []) = omega (arith, l, length-append ws (q ∷ [])) in
    let here = room k d within in
    rw (get_or_append_left ws (q ∷ []) d k l) at here

-- how a desk looked and drew, and what it uses now
pub record Heeded (p : Problem) (old new : DeskView) (s : Standing) (n : ℕ) : Type 0 where
  pub few : length old.records < 2 ^ 63
  pub exact : IsExact p s
  pub up : IsAtLeast s old.last
  pub drawn : new.ticket.drawn ≡ old.ticket.drawn ++ n ∷ []
  pub greater : All (λ m. m < n) old.ticket.drawn
  pub looks : new.seat.looks ≡ min (old.seat.looks + 1) (2 ^ 64 - 1)
  pub heeded : IsExact p new.seat.shown → IsAtLeast s new.seat.shown
  pub told : WasTold old.seat old.last → WasTold new.seat new.last
  pub tables : IsMadeFor p new.tables
  pub belief : length new.belief.masses ≡ p.cells

-- and what it recorded
pub record Recorded (p : Problem) (old new : DeskView) (q : List ℕ) (kind : Kind) (s : Standing) : Type 0 where
  pub closed : IsClosed p s q kind
  pub legal : IsLegal p q
  pub last : new.last ≡ best_after s q kind
  pub records : new.records ≡ old.records ++ record { prefix = q; kind = kind } ∷ []
  pub waited : old.waiting ≡ new.waiting ++ q ∷ []
  pub numbers : numbers_of new.ticket ≡ numbers_of old.ticket + 1

module _ (p : Problem) (first : Standing) (old new : DeskView) (s : Standing) (n : ℕ) (sound : IsProblem p) (order : IsInOrder p first old) (h : Heeded p old new s n) where
  up_to_first : IsAtLeast s first
  up_to_first = at_least_trans s old.last first h.up (order.sound [] [] []).up

  module _ (q : List ℕ) (kind : Kind) (r : Recorded p old new q kind s) where
    last_up : IsAtLeast new.last s
    last_up = subst (λ z. IsAtLeast z s) (sym r.last) (after_is_up s q kind)

    good : All (IsGood p new.last) new.records
    good =
        let up = at_least_trans new.last s old.last last_up h.up in
        let here : IsGood p new.last (record { prefix = q; kind = kind }) =
        closed_is_good p s new.last q kind sound r.legal last_up (λ m e. subst (λ z. better (record { path = q; value = m }) z ≡ false) (sym r.last) (after_unbeaten s q kind m e)) r.closed in
        subst (All (IsGood p new.last)) (sym r.records)
        (All-push (IsGood p new.last) old.records (record { prefix = q; kind = kind }) (All-weaker (IsGood p old.last) (IsGood p new.last) (λ t g. good_at_least p old.last new.last t.prefix t.kind sound up g) old.records (order.sound [] [] []).good) here)

    pub in_order : IsInOrder p first new
    in_order =
        let node : TreeNode = record { prefix = q; kind = kind } in
        let last_first : IsAtLeast new.last first = at_least_trans new.last s first last_up up_to_first in
        let Open : TreeNode → Type 0 = λ t. t.kind ≡ Branch → IsClosed p first t.prefix Branch in
        let more : length new.records ≡ length old.records + 1 = ap length r.records ∙ length-append old.records (node ∷ []) in
        record {
          sound = λ began put taken. record {
            exact = subst (IsExact p) (sym r.last) (after_is_exact p s q kind h.exact r.legal r.closed);
            up = last_first;
            good = good;
            branches = subst (All Open) (sym r.records) (All-push Open old.records node (order.sound [] [] []).branches (λ branch. branch_at_least p first s q sound up_to_first (subst (IsClosed p s q) branch r.closed)));
          };
          made = subst (All (IsMade p first)) (sym r.records) (All-push (IsMade p first) old.records node order.made (record { under = s; exact = h.exact; up = up_to_first; closed = r.closed }));
          counted = omega (arith, more, order.counted, r.numbers);
          ascending = subst (AllPairs (λ m n. m < n)) (sym h.drawn) (ascend-push old.ticket.drawn n order.ascending h.greater);
          looked = omega (arith, more, order.looked, h.looks, h.few);
          heeded = λ exact. at_least_trans new.last s new.seat.shown last_up (h.heeded exact);
          told = h.told order.told;
          room = room_left new.waiting q (subst HasRoom r.waited order.room);
          tables = h.tables;
          belief = h.belief;
        }

  -- where nothing was recorded
  pub still_in_order : new.last ≡ s → new.records ≡ old.records → new.waiting ≡ old.waiting → numbers_of new.ticket ≡ numbers_of old.ticket → IsInOrder p first new
  still_in_order last records waiting numbers =
      let up : IsAtLeast new.last old.last = subst (λ z. IsAtLeast z old.last) (sym last) h.up in
      let before = order.sound [] [] [] in
      let Open : TreeNode → Type 0 = λ t. t.kind ≡ Branch → IsClosed p first t.prefix Branch in
      record {
        sound = λ began put taken. record {
          exact = subst (IsExact p) (sym last) h.exact;
          up = at_least_trans new.last old.last first up before.up;
          good = subst (All (IsGood p new.last)) (sym records) (All-weaker (IsGood p old.last) (IsGood p new.last) (λ t g. good_at_least p old.last new.last t.prefix t.kind sound up g) old.records before.good);
          branches = subst (All Open) (sym records) before.branches;
        };
        made = subst (All (IsMade p first)) (sym records) order.made;
        counted = ap length records ∙ order.counted ∙ sym numbers;
        ascending = subst (AllPairs (λ m n. m < n)) (sym h.drawn) (ascend-push old.ticket.drawn n order.ascending h.greater);
        looked = (let same = ap length records in omega (arith, same, order.looked, h.looks, h.few));
        heeded = λ exact. subst (λ z. IsAtLeast z new.seat.shown) (sym last) (h.heeded exact);
        told = h.told order.told;
        room = subst HasRoom (sym waiting) order.room;
        tables = h.tables;
        belief = h.belief;
      }

-- what holds of all that waited holds of the last of it
last_of_all : (P : List ℕ → Type 0) (ws : List (List ℕ)) (q : List ℕ) → All P (ws ++ q ∷ []) → P q
last_of_all P ws q all = All-contains P (ws ++ q ∷ []) q all (Contains-last ws q)

-- a prefix that was closed at a desk in order leaves it in order
pub closed_in_order : (p : Problem) (first : Standing) (old mid new : DeskView) (n : ℕ) (closing : Closing) → IsProblem p → IsInOrder p first old →
    Heeded p old new mid.last n → mid.records ≡ old.records → mid.waiting ≡ old.waiting → All (IsLegal p) old.waiting →
    numbers_of new.ticket ≡ numbers_of old.ticket + 1 → MakesRecord p mid closing new → IsInOrder p first new
closed_in_order p first old mid new n closing sound order h records waiting legal numbers made = step closing made
  where
    under : (q : List ℕ) (kind : Kind) → ClosesUnder p mid q kind new → IsInOrder p first new
    under q kind made =
        let waited = sym waiting ∙ made.recorded.waited in
        in_order p first old new mid.last n sound order h q kind (record {
          closed = made.closed;
          legal = last_of_all (IsLegal p) new.waiting q (subst (All (IsLegal p)) waited legal);
          last = made.last;
          records = made.recorded.records ∙ ap (λ rs. rs ++ record { prefix = q; kind = kind } ∷ []) records;
          waited = waited;
          numbers = numbers;
        })

    step : (closing : Closing) → MakesRecord p mid closing new → IsInOrder p first new
    step (Branches q) made = under q Branch made
    step Ends (q, kind, no_branch, made) = under q kind made
    step Full made = absurd made
    step NoMemory made = absurd made

pub closes_from : (p : Problem) (old mid new : DeskView) (closing : Closing) → mid.records ≡ old.records → mid.waiting ≡ old.waiting → MayDraw new.ticket →
    MakesRecord p mid closing new → Closes old closing new
closes_from p old mid new closing records waiting may made = step closing made
  where
    recorded : (q : List ℕ) (kind : Kind) → ClosesUnder p mid q kind new → Records old q kind new
    recorded q kind made = record {
      waited = sym waiting ∙ made.recorded.waited;
      records = made.recorded.records ∙ ap (λ rs. rs ++ record { prefix = q; kind = kind } ∷ []) records;
    }

    step : (closing : Closing) → MakesRecord p mid closing new → Closes old closing new
    step (Branches q) made = (recorded q Branch made, may)
    step Ends (q, kind, no_branch, made) = ((q, kind, no_branch, recorded q kind made), may)
    step Full made = absurd made
    step NoMemory made = absurd made
