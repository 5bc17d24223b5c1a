-- A gap plan that is accepted for a problem is accepted for each problem that is the same search.
use Rattle.std.proofs.Common.{ℕ, ◌≡◌, ◌==◌, min, List, [], ◌∷◌, map, length, ap, ◌∙◌, arith, All, if◌then◌else◌}
use Rattle.std.proofs.lemmas.List.Elements.{All-nil, All-cons, All-head, All-tail}
use Rattle.list_laws.proofs.Mapped.{All-unmap}
use Rattle.search_model.specs.declared.standing.Standing.{Standing}
use Rattle.search_model.specs.Problem.{Problem, IsProblem}
use Rattle.search_model.specs.Legal.{IsLegal}
use Rattle.search_model.specs.Same.{AreSame}
use Rattle.search_model.specs.Tracks.{value_of, whole_weight}
use Rattle.search_model.specs.Edge.{edge_of}
use Rattle.search_model.proofs.SameSearch.{path_same, path_legal, value_same_legal, whole_same}
use Rattle.search_model.proofs.SameMemory.{mean_same, edge_same}
use Rattle.bound_tree.specs.declared.node.TreeNode.{TreeNode}
use Rattle.bound_tree.specs.declared.gap.Numbers.{Numbers}
use Rattle.bound_tree.specs.declared.gap.Numbers.TheVariants.{Means, Edges}
use Rattle.bound_tree.specs.declared.gap.GapKind.{GapKind}
use Rattle.bound_tree.specs.declared.gap.GapKind.TheVariants.{Closed, Waiting}
use Rattle.bound_tree.specs.declared.gap.GapNode.{GapNode}
use Rattle.bound_tree.specs.Gaps.{shape_of, open_bound, ceiling_of, IsGoodOpenKind, IsGoodOpen}
use Rattle.bound_tree.proofs.Placing.{placed_are_legal}
use Rattle.bound_tree.proofs.SamePlans.{in_place_same, good_same}
use Rattle.gap_plan.specs.Laws.{SameGapAccepts}

module _ (p o : Problem) (same : AreSame p o) (sound : IsProblem p) where
  -- the bound of a legal prefix is the same
  open_bound_same : (numbers : Numbers) (q : List ℕ) → IsLegal p q → open_bound numbers p q ≡ open_bound numbers o q
  open_bound_same Means q legal = mean_same p o same sound q legal
  open_bound_same Edges q legal =
      ap (λ (e : ℕ). min e (whole_weight p)) (edge_same p o same sound q legal) ∙ ap (min (edge_of o q)) (whole_same p o same)

  -- and so is its ceiling
  ceiling_same : (numbers : Numbers) (q : List ℕ) → IsLegal p q → ceiling_of numbers p q ≡ ceiling_of numbers o q
  ceiling_same numbers q legal =
      ap (λ (t : ℕ). if length q == t then value_of p q else open_bound numbers p q) same.horizon
      ∙ ap (λ (v : ℕ). if length q == o.horizon then v else open_bound numbers p q) (value_same_legal p o same sound q legal)
      ∙ ap (λ (m : ℕ). if length q == o.horizon then value_of o q else m) (open_bound_same numbers q legal)

  module _ (numbers : Numbers) (s : Standing) where
    -- so a node that is good is good there, too
    open_same : (q : List ℕ) (kind : GapKind) → IsLegal p q → IsGoodOpenKind numbers p s q kind → IsGoodOpenKind numbers o s q kind
    open_same q (Closed kind) legal good = good_same p o same sound s q kind legal good
    open_same q (Waiting n) legal good = good ∙ ceiling_same numbers q legal

    all_open_same : (nodes : List GapNode) → All (λ (node : GapNode). IsLegal p node.prefix) nodes → All (IsGoodOpen numbers p s) nodes → All (IsGoodOpen numbers o s) nodes
    all_open_same [] legal good = All-nil (IsGoodOpen numbers o s)
    all_open_same (node ∷ nodes) legal good =
        let here = open_same node.prefix node.kind (All-head (λ (n : GapNode). IsLegal p n.prefix) node nodes legal) (All-head (IsGoodOpen numbers p s) node nodes good) in
        All-cons (IsGoodOpen numbers o s) node nodes here (all_open_same nodes (All-tail (λ (n : GapNode). IsLegal p n.prefix) node nodes legal) (All-tail (IsGoodOpen numbers p s) node nodes good))

pub gap_accepts_same : SameGapAccepts
gap_accepts_same p o plan sound same a =
    let empty : IsLegal p [] = record { follows = tt; short = omega arith } in
    let legal : All (λ (node : GapNode). IsLegal p node.prefix) plan.nodes =
    All-unmap (λ (r : TreeNode). IsLegal p r.prefix) shape_of plan.nodes (placed_are_legal p (map shape_of plan.nodes) ([] ∷ []) (All-cons (IsLegal p) [] [] empty (All-nil (IsLegal p))) a.placed) in
    record {
      path = path_same p o same plan.standing.path a.path;
      value = a.value ∙ value_same_legal p o same sound plan.standing.path (path_legal p o same sound plan.standing.path a.path);
      weight = a.weight ∙ whole_same p o same;
      placed = in_place_same p o same ([] ∷ []) (map shape_of plan.nodes) a.placed;
      good = all_open_same p o same sound plan.numbers plan.standing plan.nodes legal a.good;
      ceiling = a.ceiling;
    }
