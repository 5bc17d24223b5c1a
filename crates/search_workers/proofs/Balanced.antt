-- A worker's haul stays balanced.
use Rattle.std.proofs.Common.{◌≡◌, ◌≢◌, ℕ, ◌+◌, List, [], ◌∷◌, ◌++◌, inl, inr, ap, arith}
use Rattle.search_model.specs.Problem.{Problem}
use Rattle.bound_tree.specs.declared.node.Kind.{Kind}
use Rattle.bound_tree.specs.declared.node.Kind.TheVariants.{Branch}
use Rattle.bound_tree.specs.declared.node.TreeNode.{TreeNode}
use Rattle.bound_tree.specs.Accepts.{expected_by, prefixes_of}
use Rattle.steal_pool.specs.Kits.{KitView, put_of, taken_of}
use Rattle.search_core.specs.Counts.{count_of, SameItems}
use Rattle.search_core.specs.Balance.{expected_of}
use Rattle.search_core.proofs.Counts.{count_of-append}
use Rattle.bound_tree.proofs.Rooms.{branch_or_leaf}
use Rattle.search_core.proofs.Children.{expected-append, prefixes-append}
use Rattle.tree_gather.specs.Hauls.{Haul, IsHaulBalanced}
use Rattle.search_workers.specs.Desks.{DeskView}
use Rattle.search_workers.specs.Steps.{Records, Stays}
use Rattle.search_workers.specs.Turns.{Shifts, OnlyTook}
use Rattle.search_workers.specs.Workers.{begun_by, haul_of}

-- what was taken waits now
pub took_waits : (kit : KitView (List ℕ)) (agenda waiting : List (List ℕ)) (kit' : KitView (List ℕ)) (agenda' waiting' out : List (List ℕ)) → Shifts kit agenda kit' agenda' out → waiting' ≡ waiting ++ out →
    OnlyTook kit agenda waiting kit' agenda' waiting'
took_waits kit agenda waiting kit' agenda' waiting' out shifts more = record {
  pool = shifts.pool;
  place = shifts.place;
  same = λ q. omega (
    arith,
    shifts.same q,
    ap (count_of q) more,
    count_of-append q waiting out,
    count_of-append q (taken_of kit') (put_of kit ++ agenda),
    count_of-append q (taken_of kit') ((put_of kit ++ agenda) ++ waiting),
    count_of-append q (put_of kit ++ agenda) waiting,
    count_of-append q (taken_of kit) ((put_of kit' ++ agenda') ++ out),
    count_of-append q (put_of kit' ++ agenda') out,
    count_of-append q (taken_of kit) ((put_of kit' ++ agenda') ++ waiting'),
    count_of-append q (put_of kit' ++ agenda') waiting',
  );
}

-- the balance, counted
abbrev IsEven : Problem → Haul → List ℕ → Type 0
IsEven p h q =
    count_of q h.began + count_of q h.taken + count_of q (expected_of p h.records) ≡ count_of q (prefixes_of h.records) + count_of q h.waiting + count_of q h.put

even_from : (p : Problem) (h : Haul) (q : List ℕ) → IsHaulBalanced p h → IsEven p h q
even_from p h q balanced =
    omega (
      arith,
      balanced.same q,
      count_of-append q (h.began ++ h.taken) (expected_of p h.records),
      count_of-append q h.began h.taken,
      count_of-append q (prefixes_of h.records ++ h.waiting) h.put,
      count_of-append q (prefixes_of h.records) h.waiting,
    )

balanced_from : (p : Problem) (h : Haul) → ((q : List ℕ) → IsEven p h q) → IsHaulBalanced p h
balanced_from p h even = record {
  same = λ q.
      omega (
        arith,
        even q,
        count_of-append q (h.began ++ h.taken) (expected_of p h.records),
        count_of-append q h.began h.taken,
        count_of-append q (prefixes_of h.records ++ h.waiting) h.put,
        count_of-append q (prefixes_of h.records) h.waiting,
      );
}

-- after a worker took tasks, which wait now
pub took_balanced : (p : Problem) (kit kit' : KitView (List ℕ)) (agenda agenda' : List (List ℕ)) (d : DeskView) (ws : List (List ℕ)) →
    IsHaulBalanced p (haul_of (record { kit = kit; agenda = agenda; desk = d })) → OnlyTook kit agenda d.waiting kit' agenda' ws →
    IsHaulBalanced p (haul_of (record { kit = kit'; agenda = agenda'; desk = record d { waiting = ws } }))
took_balanced p kit kit' agenda agenda' d ws balanced took =
    balanced_from p (haul_of (record { kit = kit'; agenda = agenda'; desk = record d { waiting = ws } })) (λ q.
    omega (
      arith,
      even_from p (haul_of (record { kit = kit; agenda = agenda; desk = d })) q balanced,
      ap (λ n. count_of q (begun_by n)) took.place,
      took.same q,
      count_of-append q (taken_of kit') ((put_of kit ++ agenda) ++ d.waiting),
      count_of-append q (put_of kit ++ agenda) d.waiting,
      count_of-append q (taken_of kit) ((put_of kit' ++ agenda') ++ ws),
      count_of-append q (put_of kit' ++ agenda') ws,
    ))

-- after a prefix was closed, and its children were handed on
pub closed_balanced : (p : Problem) (kit kit' : KitView (List ℕ)) (agenda agenda' : List (List ℕ)) (d d' : DeskView) (q : List ℕ) (kind : Kind) (ws : List (List ℕ)) →
    IsHaulBalanced p (haul_of (record { kit = kit; agenda = agenda; desk = d })) → Records d q kind d' →
    kit'.place ≡ kit.place → taken_of kit' ≡ taken_of kit → SameItems ((put_of kit' ++ agenda') ++ ws) ((put_of kit ++ agenda) ++ (d'.waiting ++ expected_by p q kind)) →
    IsHaulBalanced p (haul_of (record { kit = kit'; agenda = agenda'; desk = record d' { waiting = ws } }))
closed_balanced p kit kit' agenda agenda' d d' q kind ws balanced recorded place taken same =
    let node : TreeNode = record { prefix = q; kind = kind } in
    balanced_from p (haul_of (record { kit = kit'; agenda = agenda'; desk = record d' { waiting = ws } })) (λ r.
    omega (
      arith,
      even_from p (haul_of (record { kit = kit; agenda = agenda; desk = d })) r balanced,
      ap (λ n. count_of r (begun_by n)) place,
      ap (count_of r) taken,
      ap (count_of r) recorded.waited,
      ap (λ rs. count_of r (expected_of p rs)) recorded.records,
      ap (λ rs. count_of r (prefixes_of rs)) recorded.records,
      expected-append p r d.records (node ∷ []),
      prefixes-append p r d.records (node ∷ []),
      count_of-append r (expected_by p q kind) [],
      count_of-append r d'.waiting (q ∷ []),
      same r,
      count_of-append r (put_of kit' ++ agenda') ws,
      count_of-append r (put_of kit ++ agenda) (d'.waiting ++ expected_by p q kind),
      count_of-append r d'.waiting (expected_by p q kind),
    ))

-- what doesn't branch expects nothing
pub expects_nothing : (p : Problem) (q : List ℕ) (kind : Kind) → kind ≢ Branch → expected_by p q kind ≡ []
expects_nothing p q kind other = elim (branch_or_leaf kind) [
  | inl branch ↦ absurd (other branch)
  | inr leaf ↦ leaf p q
]

-- after nothing was recorded
pub stays_balanced : (p : Problem) (kit : KitView (List ℕ)) (agenda : List (List ℕ)) (d d' : DeskView) → IsHaulBalanced p (haul_of (record { kit = kit; agenda = agenda; desk = d })) → Stays d d' →
    IsHaulBalanced p (haul_of (record { kit = kit; agenda = agenda; desk = d' }))
stays_balanced p kit agenda d d' balanced stays =
    balanced_from p (haul_of (record { kit = kit; agenda = agenda; desk = d' })) (λ q.
    omega (
      arith,
      even_from p (haul_of (record { kit = kit; agenda = agenda; desk = d })) q balanced,
      ap (count_of q) stays.waiting,
      ap (λ rs. count_of q (expected_of p rs)) stays.records,
      ap (λ rs. count_of q (prefixes_of rs)) stays.records,
    ))

-- at the start, where what was begun with waits
pub new_balanced : (p : Problem) (kit : KitView (List ℕ)) (agenda : List (List ℕ)) (d : DeskView) → put_of kit ≡ [] → agenda ≡ [] → taken_of kit ≡ [] → d.records ≡ [] → d.waiting ≡ begun_by kit.place →
    IsHaulBalanced p (haul_of (record { kit = kit; agenda = agenda; desk = d }))
new_balanced p kit agenda d put none taken records waiting =
    balanced_from p (haul_of (record { kit = kit; agenda = agenda; desk = d })) (λ q.
    omega (
      arith,
      count_of-append q (put_of kit) agenda,
      ap (count_of q) put,
      ap (count_of q) none,
      ap (count_of q) taken,
      ap (λ rs. count_of q (expected_of p rs)) records,
      ap (λ rs. count_of q (prefixes_of rs)) records,
      ap (count_of q) waiting,
    ))
