-- A worker stays ready.
use Rattle.std.proofs.Common.{◌≡◌, ◌≢◌, ℕ, zero, suc, ◌+◌, ◌*◌, ◌<◌, ◌≤◌, false, None, List, [], ◌∷◌, ◌++◌, length, get_or, refl, sym, ap, ◌∙◌, subst, arith, All, Contains, length-append, append-nil}
use Rattle.std.proofs.lemmas.List.{length-map}
use Rattle.std.proofs.Math.Seq.{get_or-append_seam}
use Rattle.std.proofs.lemmas.List.Elements.{All-nil, All-cons, All-contains, All-contains_itself, All-map, Contains-append_left}
use Rattle.search_model.specs.declared.standing.Standing.{Standing}
use Rattle.search_model.specs.Problem.{Problem, IsProblem}
use Rattle.search_model.specs.Legal.{IsLegal, moves_after}
use Rattle.bound_tree.specs.declared.node.Kind.{Kind}
use Rattle.bound_tree.specs.declared.node.Kind.TheVariants.{Branch}
use Rattle.bound_tree.specs.declared.node.TreeNode.{TreeNode}
use Rattle.bound_tree.specs.Accepts.{IsGood, children_of}
use Rattle.path_node.specs.Room.{NodeTables, IsMadeFor}
use Rattle.search_core.specs.Counts.{count_of}
use Rattle.steal_pool.specs.Kits.{KitView, put_of, taken_of}
use Rattle.node_tickets.specs.Seats.{MayDraw}
use Rattle.search_workers.specs.Children.{HandsOn}
use Rattle.search_workers.specs.Desks.{DeskView, HasRoom, IsInOrder, IsSameDesk, DrewFull}
use Rattle.search_workers.specs.Steps.{Records, Stays}
use Rattle.search_workers.specs.declared.left.Left.TheVariants.{Idle, Full, NoMemory}
use Rattle.search_workers.specs.Turns.{OnlyTook, HasWork, Turns}
use Rattle.search_workers.specs.Workers.{begun_by, IsReady, IsSameWorker, Went}
use Rattle.search_model.proofs.Children.{few_moves}
use Rattle.list_laws.proofs.Wholes.{Contains-last}
use Rattle.search_workers.proofs.Balanced.{new_balanced, took_balanced, closed_balanced, expects_nothing, stays_balanced}
use Rattle.search_workers.proofs.Disposed.{all_wait, room_wait}
use Rattle.search_model.proofs.Children.{child_is_legal}

-- other prefixes wait at a desk in order
pub order_with : (p : Problem) (first : Standing) (d : DeskView) (ws : List (List ℕ)) → IsInOrder p first d → HasRoom ws → IsInOrder p first (record d { waiting = ws })
order_with p first d ws order room = record {
  sound = λ began put taken. (let s = order.sound began put taken in record { exact = s.exact; up = s.up; good = s.good; branches = s.branches });
  made = order.made;
  counted = order.counted;
  ascending = order.ascending;
  looked = order.looked;
  heeded = order.heeded;
  told = order.told;
  room = room;
  tables = order.tables;
  belief = order.belief;
}

-- it has other tables, which are made for the scenario
order_with_tables : (p : Problem) (first : Standing) (d : DeskView) (ts : NodeTables) → IsMadeFor p ts → IsInOrder p first d → IsInOrder p first (record d { tables = ts })
order_with_tables p first d ts made order = record {
  sound = λ began put taken. (let s = order.sound began put taken in record { exact = s.exact; up = s.up; good = s.good; branches = s.branches });
  made = order.made;
  counted = order.counted;
  ascending = order.ascending;
  looked = order.looked;
  heeded = order.heeded;
  told = order.told;
  room = order.room;
  tables = made;
  belief = order.belief;
}

pub legal_children : (p : Problem) (q : List ℕ) → IsLegal p q → length q < p.horizon → All (IsLegal p) (children_of p q)
legal_children p q legal short =
    All-map (IsLegal p) (λ d. q ++ d ∷ []) (moves_after p q)
    (λ k d l. child_is_legal p q (get_or (moves_after p q) k d) legal short (All-contains_itself (moves_after p q) k d l))

pub longer_children : (p : Problem) (q : List ℕ) → All (λ r. length r ≡ length q + 1) (children_of p q)
longer_children p q =
    All-map (λ r. length r ≡ length q + 1) (λ d. q ++ d ∷ []) (moves_after p q) (λ k d l. length-append q (get_or (moves_after p q) k d ∷ []))

-- the last of what waits: it is legal, what is below it leaves it room, and it is shorter than the horizon where it branches
pub last_legal : (p : Problem) (ws ws' : List (List ℕ)) (q : List ℕ) → ws ≡ ws' ++ q ∷ [] → All (IsLegal p) ws → IsLegal p q
last_legal p ws ws' q e all = All-contains (IsLegal p) (ws' ++ q ∷ []) q (subst (All (IsLegal p)) e all) (Contains-last ws' q)

pub rest_legal : (p : Problem) (ws ws' : List (List ℕ)) (q : List ℕ) → ws ≡ ws' ++ q ∷ [] → All (IsLegal p) ws → All (IsLegal p) ws'
rest_legal p ws ws' q e all = λ k d l. All-contains (IsLegal p) (ws' ++ q ∷ []) (get_or ws' k d) (subst (All (IsLegal p)) e all) (Contains-append_left ws' (q ∷ []) (get_or ws' k d) (All-contains_itself ws' k d l))

pub last_room : (ws ws' : List (List ℕ)) (q : List ℕ) → ws ≡ ws' ++ q ∷ [] → HasRoom ws → length ws' ≤ 63 * length q
last_room ws ws' q e room =
    let within : length ws' < length (ws' ++ q ∷ []) = omega (arith, length-append ws' (q ∷ [])) in
    let here = subst HasRoom e room (length ws') [] within in
    rw (get_or-append_seam ws' q [] []) at here

pub branch_short : (p : Problem) (first : Standing) (d d' : DeskView) (q : List ℕ) → IsInOrder p first d' → Records d q Branch d' → length q < p.horizon
branch_short p first d d' q order recorded =
    let node : TreeNode = record { prefix = q; kind = Branch } in
    let s = (order.sound [] [] []) in
    All-contains (IsGood p d'.last) (d.records ++ node ∷ []) node (subst (All (IsGood p d'.last)) recorded.records s.good) (Contains-last d.records node)

module _ (p : Problem) (first : Standing) (kit : KitView (List ℕ)) (agenda : List (List ℕ)) (d d' : DeskView) (q : List ℕ)
    (sound : IsProblem p) (ready : IsReady p first (record { kit = kit; agenda = agenda; desk = d })) (order : IsInOrder p first d') (same : IsSameDesk d d') (may : MayDraw d'.ticket) where
  more : (kind : Kind) → Records d q kind d' → length d'.records ≡ length d.records + 1
  more kind recorded = ap length recorded.records ∙ length-append d.records (record { prefix = q; kind = kind } ∷ [])

  -- where the prefix ends
  pub turned_end : (kind : Kind) → kind ≢ Branch → Records d q kind d' → Turns p first (record { kit = kit; agenda = agenda; desk = d }) None (record { kit = kit; agenda = agenda; desk = d' })
  turned_end kind other recorded = (
    record {
      order = order;
      legal = rest_legal p d.waiting d'.waiting q recorded.waited ready.legal;
      balanced = closed_balanced p kit kit agenda agenda d d' q kind d'.waiting ready.balanced recorded refl refl
          (λ r. ap (λ ws. count_of r ((put_of kit ++ agenda) ++ ws)) (sym (append-nil d'.waiting)) ∙ ap (λ es. count_of r ((put_of kit ++ agenda) ++ (d'.waiting ++ es))) (sym (expects_nothing p q kind other)));
    },
    record { pool = refl; place = refl; desk = same },
    may,
    more kind recorded,
  )

  -- where it branches
  pub turned_branch : (kit' : KitView (List ℕ)) (agenda' ws : List (List ℕ)) (ts : NodeTables) → IsMadeFor p ts → Records d q Branch d' → HandsOn (children_of p q) kit agenda d'.waiting kit' agenda' ws →
      Turns p first (record { kit = kit; agenda = agenda; desk = d }) None (record { kit = kit'; agenda = agenda'; desk = record d' { waiting = ws; tables = ts } })
  turned_branch kit' agenda' ws ts made recorded on =
      let children = children_of p q in
      let legal = last_legal p d.waiting d'.waiting q recorded.waited ready.legal in
      let short = branch_short p first d d' q order recorded in
      let few : length children ≤ 64 = rw (length-map (moves_after p q) (λ d. q ++ d ∷ [])) (few_moves p q sound legal) in (
        record {
          order = order_with_tables p first (record d' { waiting = ws }) ts made (order_with p first d' ws order
              (room_wait children d'.waiting ws (length q) on.wait order.room (last_room d.waiting d'.waiting q recorded.waited ready.order.room) few (longer_children p q)));
          legal = all_wait (IsLegal p) children d'.waiting ws on.wait (rest_legal p d.waiting d'.waiting q recorded.waited ready.legal) (legal_children p q legal short);
          balanced = closed_balanced p kit kit' agenda agenda' d d' q Branch ws ready.balanced recorded on.only.place on.only.taken on.same;
        },
        record { pool = on.only.pool; place = on.only.place; desk = record { tickets = same.tickets; stands_for = same.stands_for; seat = same.seat } },
        may,
        more Branch recorded,
      )

-- a worker that took tasks, which wait now
took_same : (kit kit' : KitView (List ℕ)) (agenda agenda' : List (List ℕ)) (d : DeskView) (ws : List (List ℕ)) → OnlyTook kit agenda d.waiting kit' agenda' ws →
    IsSameWorker (record { kit = kit; agenda = agenda; desk = d }) (record { kit = kit'; agenda = agenda'; desk = record d { waiting = ws } })
took_same kit kit' agenda agenda' d ws took = record {
  pool = took.pool;
  place = took.place;
  desk = record { tickets = (refl, refl); stands_for = refl; seat = (refl, refl) };
}

-- a step that records nothing is the last
module _ (p : Problem) (first : Standing) (kit : KitView (List ℕ)) (agenda : List (List ℕ)) (d d' : DeskView)
    (ready : IsReady p first (record { kit = kit; agenda = agenda; desk = d })) (order : IsInOrder p first d') (same : IsSameDesk d d') (stays : Stays d d') where
  -- at the limit a legal prefix waits
  pub turned_full : 0 < length d.waiting → DrewFull d'.ticket → Went p first (record { kit = kit; agenda = agenda; desk = d }) Full (record { kit = kit; agenda = agenda; desk = d' })
  turned_full some drew =
      let q = get_or d.waiting 0 [] in
      record {
        same = record { pool = refl; place = refl; desk = same };
        balanced = stays_balanced p kit agenda d d' ready.balanced stays;
        order = order;
        leaves = (drew, (q, subst (λ ws. Contains ws q) (sym stays.waiting) (All-contains_itself d.waiting 0 [] some), ready.legal 0 [] some));
      }

  -- and where memory ran out
  pub turned_short : MayDraw d'.ticket → Went p first (record { kit = kit; agenda = agenda; desk = d }) NoMemory (record { kit = kit; agenda = agenda; desk = d' })
  turned_short may = record {
    same = record { pool = refl; place = refl; desk = same };
    balanced = stays_balanced p kit agenda d d' ready.balanced stays;
    order = order;
    leaves = may;
  }

module _ (p : Problem) (first : Standing) (kit kit' : KitView (List ℕ)) (agenda agenda' : List (List ℕ)) (d : DeskView) (ws : List (List ℕ))
    (ready : IsReady p first (record { kit = kit; agenda = agenda; desk = d })) (took : OnlyTook kit agenda d.waiting kit' agenda' ws) (room : HasRoom ws) where
  pub took_ready : All (IsLegal p) ws → IsReady p first (record { kit = kit'; agenda = agenda'; desk = record d { waiting = ws } })
  took_ready legal = record {
    order = order_with p first d ws ready.order room;
    legal = legal;
    balanced = took_balanced p kit kit' agenda agenda' d ws ready.balanced took;
  }

  -- it has nothing to do
  pub took_idle : MayDraw d.ticket → HasWork p kit' agenda' ws false →
      Went p first (record { kit = kit; agenda = agenda; desk = d }) Idle (record { kit = kit'; agenda = agenda'; desk = record d { waiting = ws } })
  took_idle may none = record {
    same = took_same kit kit' agenda agenda' d ws took;
    balanced = took_balanced p kit kit' agenda agenda' d ws ready.balanced took;
    order = order_with p first d ws ready.order room;
    leaves = (may, none.0, none.1);
  }

begun_alone : (place : ℕ) → HasRoom (begun_by place)
begun_alone zero k d l = omega (arith, l)
begun_alone (suc place) k d l = absurd (omega (arith, l))

begun_legal : (p : Problem) (place : ℕ) → All (IsLegal p) (begun_by place)
begun_legal p zero = All-cons (IsLegal p) [] [] (record { follows = tt; short = omega arith }) (All-nil (IsLegal p))
begun_legal p (suc place) = All-nil (IsLegal p)

-- a worker that has done nothing yet
pub new_ready : (p : Problem) (first : Standing) (kit : KitView (List ℕ)) (agenda : List (List ℕ)) (d : DeskView) (ws : List (List ℕ)) → IsInOrder p first d → put_of kit ≡ [] → agenda ≡ [] → taken_of kit ≡ [] →
    d.records ≡ [] → ws ≡ begun_by kit.place → IsReady p first (record { kit = kit; agenda = agenda; desk = record d { waiting = ws } })
new_ready p first kit agenda d ws order put none taken records begun = record {
  order = order_with p first d ws order (subst HasRoom (sym begun) (begun_alone kit.place));
  legal = subst (All (IsLegal p)) (sym begun) (begun_legal p kit.place);
  balanced = new_balanced p kit agenda (record d { waiting = ws }) put none taken records begun;
}
