-- The nodes of a search in any order: what they close, what waits in them, and their balance.
use Rattle.std.proofs.Common.{◌≡◌, ℕ, ◌+◌, List, [], ◌∷◌, map, refl, ap, subst, arith, IsPermutation, sum_by}
use Rattle.std.proofs.lemmas.List.Recursion.{is_sum_by}
use Rattle.std.proofs.lemmas.List.Sorted.{sum_by-IsPermutation}
use Rattle.search_model.specs.Problem.{Problem}
use Rattle.bound_tree.specs.declared.node.TreeNode.{TreeNode}
use Rattle.bound_tree.specs.declared.gap.GapNode.{GapNode}
use Rattle.bound_tree.specs.Accepts.{prefixes_of, expected_by}
use Rattle.bound_tree.specs.Gaps.{shape_of_kind, shape_of}
use Rattle.search_core.specs.Counts.{count_of, SameItems}
use Rattle.search_core.specs.Balance.{expected_of, MeetsEquation}
use Rattle.search_core.proofs.Counts.{count_of-append}
use Rattle.gap_plan.specs.Nodes.{waiting_node, nodes_of, record_at, prefix_at, closed_in, waiting_in}
use Rattle.gap_plan.proofs.Reordered.{IsPermutation-flat_map}

-- nodes as records
abbrev pub shapes_of : List GapNode → List TreeNode
shapes_of nodes = map shape_of nodes

-- what was closed, and what waits, is found again among the nodes
pub closed_listed : (closed : List TreeNode) (waiting : List (List ℕ)) → closed_in (nodes_of closed waiting) ≡ closed
closed_listed [] [] = refl
closed_listed [] (q ∷ qs) = closed_listed [] qs
closed_listed (r ∷ rs) qs = ap (λ (xs : List TreeNode). r ∷ xs) (closed_listed rs qs)

pub waiting_listed : (closed : List TreeNode) (waiting : List (List ℕ)) → waiting_in (nodes_of closed waiting) ≡ waiting
waiting_listed [] [] = refl
waiting_listed [] (q ∷ qs) = ap (λ (xs : List (List ℕ)). q ∷ xs) (waiting_listed [] qs)
waiting_listed (r ∷ rs) qs = waiting_listed rs qs

module _ (p : Problem) (q : List ℕ) where
  -- the children that the nodes make expected, and their prefixes, node by node
  abbrev children_counted : GapNode → ℕ
  children_counted node = count_of q (expected_by p node.prefix (shape_of_kind node.kind))

  abbrev prefix_counted : GapNode → ℕ
  prefix_counted node = count_of q (node.prefix ∷ [])

  expected_by_nodes : (nodes : List GapNode) → count_of q (expected_of p (shapes_of nodes)) ≡ sum_by children_counted nodes
  expected_by_nodes nodes =
      is_sum_by (λ nodes. count_of q (expected_of p (shapes_of nodes))) children_counted refl
      (λ node nodes. count_of-append q (expected_by p node.prefix (shape_of_kind node.kind)) (expected_of p (shapes_of nodes))) nodes

  prefixes_by_nodes : (nodes : List GapNode) → count_of q (prefixes_of (shapes_of nodes)) ≡ sum_by prefix_counted nodes
  prefixes_by_nodes nodes =
      is_sum_by (λ nodes. count_of q (prefixes_of (shapes_of nodes))) prefix_counted refl
      (λ node nodes. count_of-append q (node.prefix ∷ []) (prefixes_of (shapes_of nodes))) nodes

  -- a waiting node makes nothing expected
  expected_listed : (closed : List TreeNode) (waiting : List (List ℕ)) → count_of q (expected_of p (shapes_of (nodes_of closed waiting))) ≡ count_of q (expected_of p closed)
  expected_listed [] [] = refl
  expected_listed [] (w ∷ ws) = expected_listed [] ws
  expected_listed (r ∷ rs) ws =
      let here = expected_by p r.prefix r.kind in
      omega (arith, expected_listed rs ws, count_of-append q here (expected_of p (shapes_of (nodes_of rs ws))), count_of-append q here (expected_of p rs))

  -- and has a prefix of its own
  prefixes_listed : (closed : List TreeNode) (waiting : List (List ℕ)) →
      count_of q (prefixes_of (shapes_of (nodes_of closed waiting))) ≡ count_of q waiting + count_of q (prefixes_of closed)
  prefixes_listed [] [] = refl
  prefixes_listed [] (w ∷ ws) = omega (arith, prefixes_listed [] ws)
  prefixes_listed (r ∷ rs) ws = omega (arith, prefixes_listed rs ws)

-- where waiting prefixes are held, the nodes as records balance with nothing held, in any order
pub nodes_are_even : (p : Problem) (closed : List TreeNode) (waiting : List (List ℕ)) (nodes : List GapNode) →
    MeetsEquation p [] waiting closed → IsPermutation (nodes_of closed waiting) nodes → MeetsEquation p [] [] (shapes_of nodes)
nodes_are_even p closed waiting nodes equation same q =
    let listed = nodes_of closed waiting in
    omega (
      arith,
      equation q,
      count_of-append q waiting (prefixes_of closed),
      expected_listed p q closed waiting,
      prefixes_listed p q closed waiting,
      expected_by_nodes p q listed,
      expected_by_nodes p q nodes,
      sum_by-IsPermutation (children_counted p q) listed nodes same,
      prefixes_by_nodes p q listed,
      prefixes_by_nodes p q nodes,
      sum_by-IsPermutation (prefix_counted p q) listed nodes same,
    )

-- how often a prefix waits, node by node
abbrev waiting_counted : List ℕ → GapNode → ℕ
waiting_counted q node = count_of q (prefix_at node.prefix node.kind)

waiting_by_nodes : (q : List ℕ) (nodes : List GapNode) → count_of q (waiting_in nodes) ≡ sum_by (waiting_counted q) nodes
waiting_by_nodes q nodes =
    is_sum_by (λ nodes. count_of q (waiting_in nodes)) (waiting_counted q) refl
    (λ node nodes. count_of-append q (prefix_at node.prefix node.kind) (waiting_in nodes)) nodes

-- another order has the same prefixes waiting
pub waiting_is_same : (closed : List TreeNode) (waiting : List (List ℕ)) (nodes : List GapNode) → IsPermutation (nodes_of closed waiting) nodes → SameItems waiting (waiting_in nodes)
waiting_is_same closed waiting nodes same q =
    let listed = nodes_of closed waiting in
    omega (
      arith,
      ap (count_of q) (waiting_listed closed waiting),
      waiting_by_nodes q listed,
      waiting_by_nodes q nodes,
      sum_by-IsPermutation (waiting_counted q) listed nodes same,
    )

-- and the same records closed
pub closed_is_same : (closed : List TreeNode) (waiting : List (List ℕ)) (nodes : List GapNode) → IsPermutation (nodes_of closed waiting) nodes → IsPermutation closed (closed_in nodes)
closed_is_same closed waiting nodes same =
    subst (λ (records : List TreeNode). IsPermutation records (closed_in nodes)) (closed_listed closed waiting)
    (IsPermutation-flat_map (λ (node : GapNode). record_at node.prefix node.kind) (waiting_node []) refl (nodes_of closed waiting) nodes same)
