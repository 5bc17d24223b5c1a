-- The nodes of a search in preorder, with their numbers, make an accepted gap plan.
use Rattle.std.proofs.Common.{◌≡◌, ℕ, ◌+◌, ◌*◌, ◌<◌, ◌≤◌, Bool, true, false, cond, List, [], ◌∷◌, ◌++◌, map, length, inl, inr, sym, refl, ap, ◌∙◌, subst, arith, length-append, All, IsPermutation, sum_by}
use Rattle.std.specs.Prelude.{nat_lt}
use Rattle.std.specs.List.Sorted.{IsSortedBy}
use Rattle.std.proofs.lemmas.Bool.{cond_both}
use Rattle.std.proofs.lemmas.List.{length-map, get_or-map}
use Rattle.std.proofs.lemmas.List.Elements.{All-nil, All-cons, All-head, All-tail, All-append, All-map}
use Rattle.std.proofs.lemmas.List.Sorted.{IsPermutation-refl, All-permutation, length_permutation}
use Rattle.std.proofs.lemmas.List.Sums.{sum_by-cons}
use Rattle.list_laws.proofs.Mapped.{All-unmap}
use Rattle.search_model.specs.declared.standing.Standing.{Standing}
use Rattle.search_model.specs.Problem.{Problem, IsProblem}
use Rattle.search_model.specs.Legal.{IsLegal, IsPath, moves_after}
use Rattle.search_model.specs.Tracks.{value_of, whole_weight}
use Rattle.search_model.specs.Bounds.{greatest}
use Rattle.search_model.specs.Order.{smaller}
use Rattle.search_model.proofs.Children.{few_moves}
use Rattle.bound_tree.specs.declared.node.Kind.TheVariants.{Branch}
use Rattle.bound_tree.specs.declared.node.TreeNode.{TreeNode}
use Rattle.bound_tree.specs.declared.gap.Numbers.{Numbers}
use Rattle.bound_tree.specs.declared.gap.GapKind.{GapKind}
use Rattle.bound_tree.specs.declared.gap.GapKind.TheVariants.{Closed, Waiting}
use Rattle.bound_tree.specs.declared.gap.GapNode.{GapNode}
use Rattle.bound_tree.specs.declared.gap.GapPlan.{GapPlan}
use Rattle.bound_tree.specs.Accepts.{IsGood, children_of}
use Rattle.bound_tree.specs.Close.{IsExact}
use Rattle.bound_tree.specs.Gaps.{shape_of_kind, shape_of, IsGoodOpen, open_numbers, closed_node, GapAccepts}
use Rattle.bound_tree.specs.Places.{opened_by, AreInPlace}
use Rattle.bound_tree.proofs.Placing.{placed_are_legal}
use Rattle.search_core.specs.Balance.{MeetsEquation}
use Rattle.search_core.specs.Laws.{BranchesAreShort}
use Rattle.bound_tree.proofs.Rooms.{branch_or_leaf}
use Rattle.search_core.proofs.Preorder.{good_are_short, balanced_is_placed}
use Rattle.tree_gather.proofs.Sorted.{sorted_is_gathered}
use Rattle.gap_plan.specs.Nodes.{waiting_node, nodes_of, numbered, record_at, closed_in}
use Rattle.gap_plan.proofs.Listed.{shapes_of, nodes_are_even, closed_is_same}
use Rattle.gap_plan.proofs.Numbered.{shapes_stay}

-- what holds of closed records as nodes, and of waiting prefixes as nodes, holds of them all in any order
in_any_order : (P : GapNode → Type 0) (closed : List TreeNode) (waiting : List (List ℕ)) (nodes : List GapNode) → IsPermutation (nodes_of closed waiting) nodes →
    All (λ r. P (closed_node r)) closed → ((q : List ℕ) → P (waiting_node q)) → All P nodes
in_any_order P closed waiting nodes same each waits =
    All-permutation P (nodes_of closed waiting) nodes same
    (All-append P (map closed_node closed) (map waiting_node waiting) (All-map P closed_node closed each) (All-map P waiting_node waiting (λ k d l. waits _)))

-- nodes that are sorted by their prefixes are sorted as records
sorted_shapes : (nodes : List GapNode) → IsSortedBy (λ a b. smaller a.prefix b.prefix) nodes → IsSortedBy (λ a b. smaller a.prefix b.prefix) (shapes_of nodes)
sorted_shapes [] sorted k d low l = absurd (omega (arith, l))
sorted_shapes (node ∷ nodes) sorted k d low l =
    let within : k + 1 < length (node ∷ nodes) = (let size : length (shapes_of (node ∷ nodes)) ≡ length (node ∷ nodes) = simp length-map in omega (arith, l, size)) in
    rw (get_or-map shape_of (node ∷ nodes) (k + 1) node d within, get_or-map shape_of (node ∷ nodes) k node d (omega (arith, within)))
    (sorted k node low within)

-- how many prefixes a record opens
abbrev opened_number : Problem → TreeNode → ℕ
opened_number p r = length (opened_by p r.prefix r.kind)

none_opened : (b : Bool) → length {A = List ℕ} (cond b [] []) ≡ 0
none_opened true = refl
none_opened false = refl

-- records in place are as many as the prefixes that are expected and those that the records open
as_many : (p : Problem) (rs : List TreeNode) (qs : List (List ℕ)) → AreInPlace p qs rs → length rs ≡ length qs + sum_by (opened_number p) rs
as_many p [] [] placed = omega arith
as_many p [] (q ∷ qs) placed = absurd placed
as_many p (r ∷ rs) [] placed = absurd placed
as_many p (r ∷ rs) (q ∷ qs) placed =
    let here : length (opened_by p q r.kind) ≡ opened_number p r = ap (λ (x : List ℕ). length (opened_by p x r.kind)) (sym placed.0) in
    omega (
      arith,
      as_many p rs (opened_by p q r.kind ++ qs) placed.1,
      length-append (opened_by p q r.kind) qs,
      here,
      sum_by-cons (opened_number p) r rs,
    )

module _ (numbers : Numbers) (p : Problem) (s : Standing) (closed : List TreeNode) (waiting : List (List ℕ)) (nodes : List GapNode) where
  module _ (sound : IsProblem p) (equation : MeetsEquation p [] waiting closed) (good : All (IsGood p s) closed) (same : IsPermutation (nodes_of closed waiting) nodes) where
    -- the nodes, with their numbers, are good
    pub all_good : All (IsGoodOpen numbers p s) (map (numbered numbers p) nodes)
    all_good = All-map (IsGoodOpen numbers p s) (numbered numbers p) nodes (in_any_order (λ node. IsGoodOpen numbers p s (numbered numbers p node)) closed waiting nodes same good (λ q. refl))

    -- those that branch are shorter than the horizon
    abbrev IsShort : TreeNode → Type 0
    IsShort r = r.kind ≡ Branch → length r.prefix < p.horizon

    no_branch : (q : List ℕ) → IsShort (shape_of (waiting_node q))
    no_branch q e = cc

    all_short : BranchesAreShort p (shapes_of nodes)
    all_short = All-map IsShort shape_of nodes (in_any_order (λ node. IsShort (shape_of node)) closed waiting nodes same (good_are_short p s closed good) no_branch)

    module _ (sorted : IsSortedBy (λ a b. smaller a.prefix b.prefix) nodes) where
      even : MeetsEquation p [] [] (shapes_of nodes)
      even = nodes_are_even p closed waiting nodes equation same

      -- sorted, the nodes stand in preorder
      pub all_placed : AreInPlace p ([] ∷ []) (shapes_of nodes)
      all_placed =
          let records = shapes_of nodes in
          let gathered = sorted_is_gathered p records records sound even (IsPermutation-refl records) (sorted_shapes nodes sorted) in
          balanced_is_placed p records sound even all_short gathered.preorder

      -- and are legal
      pub all_legal : All (λ node. IsLegal p node.prefix) nodes
      all_legal =
          let start : IsLegal p [] = record { follows = tt; short = omega arith } in
          All-unmap (λ (r : TreeNode). IsLegal p r.prefix) shape_of nodes (placed_are_legal p (shapes_of nodes) ([] ∷ []) (All-cons (IsLegal p) [] [] start (All-nil (IsLegal p))) all_placed)

      -- each closed node opens at most 64 prefixes, and a waiting one none
      few_opened : (q : List ℕ) (kind : GapKind) → IsLegal p q → length (opened_by p q (shape_of_kind kind)) ≤ 64 * length (record_at q kind)
      few_opened q (Closed kind) legal = elim (branch_or_leaf kind) [
        | inl branch ↦
            rw branch
            (cond_both (nat_lt (length q) p.horizon) (children_of p q) [] (λ (qs : List (List ℕ)). length qs ≤ 64 * 1)
            (λ _. let few = few_moves p q sound legal in let size : length (children_of p q) ≡ length (moves_after p q) = length-map (moves_after p q) (λ a. q ++ a ∷ []) in omega (arith, few, size))
            (λ _. omega arith))
        | inr leaf ↦ rw (leaf p q) (omega (arith, none_opened (nat_lt (length q) p.horizon)))
      ]
      few_opened q (Waiting n) legal = omega (arith, none_opened (nat_lt (length q) p.horizon))

      few_by_nodes : (some : List GapNode) → All (λ node. IsLegal p node.prefix) some → sum_by (opened_number p) (shapes_of some) ≤ 64 * length (closed_in some)
      few_by_nodes [] legal = omega arith
      few_by_nodes (node ∷ some) legal =
          omega (
            arith,
            few_opened node.prefix node.kind (All-head (λ node. IsLegal p node.prefix) node some legal),
            few_by_nodes some (All-tail (λ node. IsLegal p node.prefix) node some legal),
            sum_by-cons (opened_number p) (shape_of node) (shapes_of some),
            length-append (record_at node.prefix node.kind) (closed_in some),
          )

      pub few : length (map (numbered numbers p) nodes) ≤ 1 + 64 * length closed
      few =
          omega (
            arith,
            as_many p (shapes_of nodes) ([] ∷ []) all_placed,
            few_by_nodes nodes all_legal,
            length_permutation closed (closed_in nodes) (closed_is_same closed waiting nodes same),
            length-map nodes (numbered numbers p),
            length-map nodes shape_of,
          )

      -- so they make an accepted gap plan
      pub accepted : (plan : GapPlan) → IsExact p s → plan.standing ≡ s → plan.weight ≡ whole_weight p → plan.numbers ≡ numbers → plan.nodes ≡ map (numbered numbers p) nodes →
          plan.ceiling ≡ greatest (s.value ∷ open_numbers plan.nodes) → GapAccepts p plan
      accepted plan exact standing weight which made ceiling = record {
        path = subst (λ (t : Standing). IsPath p t.path) (sym standing) exact.path;
        value = subst (λ (t : Standing). t.value ≡ value_of p t.path) (sym standing) exact.value;
        weight = weight;
        placed = subst (λ (some : List GapNode). AreInPlace p ([] ∷ []) (shapes_of some)) (sym made) (subst (AreInPlace p ([] ∷ [])) (sym (shapes_stay numbers p nodes)) all_placed);
        good =
            subst (λ (n : Numbers). All (IsGoodOpen n p plan.standing) plan.nodes) (sym which)
            (subst (λ (t : Standing). All (IsGoodOpen numbers p t) plan.nodes) (sym standing) (subst (All (IsGoodOpen numbers p s)) (sym made) all_good));
        ceiling = ceiling ∙ ap (λ (t : Standing). greatest (t.value ∷ open_numbers plan.nodes)) (sym standing);
      }
