-- A gap plan that the search gives from the opening is as it is owed, and can be written.
use Rattle.std.proofs.Common.{ℕ, ◌≡◌, ◌≤◌, List, [], ◌∷◌, map, length, inl, inr, refl, sym, ap, ◌∙◌, subst, arith, IsPermutation}
use Rattle.std.proofs.lemmas.List.Elements.{All-weaker}
use Rattle.std.proofs.lemmas.List.Sorted.{All-permutation, length_permutation}
use Rattle.search_model.specs.declared.standing.Standing.{Standing}
use Rattle.search_model.specs.Problem.{Problem, IsProblem}
use Rattle.search_model.specs.Legal.{IsPath}
use Rattle.search_model.specs.Tracks.{value_of}
use Rattle.search_model.specs.Order.{IsBest, standing_of}
use Rattle.search_model.specs.Opening.{IsOpening}
use Rattle.search_model.proofs.Orders.{same_or_differ}
use Rattle.bound_tree.specs.declared.node.Kind.TheVariants.{Branch}
use Rattle.bound_tree.specs.declared.node.TreeNode.{TreeNode}
use Rattle.bound_tree.specs.declared.plan.Plan.{Plan}
use Rattle.bound_tree.specs.declared.gap.GapKind.{GapKind}
use Rattle.bound_tree.specs.declared.gap.GapKind.TheVariants.{Closed, Waiting}
use Rattle.bound_tree.specs.declared.gap.Numbers.{Numbers}
use Rattle.bound_tree.specs.declared.gap.GapPlan.{GapPlan}
use Rattle.bound_tree.specs.Accepts.{Accepts}
use Rattle.bound_tree.specs.Close.{IsClosed, IsAtLeast, LetsBranch, HasMoreLive}
use Rattle.bound_tree.specs.Gaps.{shape_of, shape_of_kind, IsGoodOpenKind, IsGoodOpen, closed_node, gap_of, numbers_for, GapAccepts, NoneWaits}
use Rattle.bound_tree.proofs.Ceilings.{ceiling_is_above, none_waiting_is_best, plan_is_gap_plan}
use Rattle.gap_plan.specs.Nodes.{closed_in}
use Rattle.tree_format.specs.declared.dialects.TheConstants.{MOST_GAP_NODES}
use Rattle.tree_format.specs.PlanText.{IsPrintableKind, IsPrintableGap}
use Rattle.plan_command.specs.GapPlans.{RanOut, IsGapped}
use Rattle.plan_command.proofs.Certified.{opening_standing, more_live}
use Rattle.plan_command.proofs.Printing.{follows_positions, kind_printable}
use Rattle.plan_command.proofs.Versions.{gap_lettered}

-- the best path isn't worse than another
best_at_least : (p : Problem) (s : Standing) (q : List ℕ) → s.value ≡ value_of p s.path → IsBest p s.path → IsPath p q → IsAtLeast s (standing_of p q)
best_at_least p s q value best path =
    subst (λ (t : Standing). IsAtLeast t (standing_of p q)) (sym (opening_standing p s value))
    (elim (same_or_differ q s.path) [
      | inl same ↦ inl (ap (standing_of p) (sym same))
      | inr differ ↦ inr (best.better q path differ)
    ])

-- records are found again among their closed nodes, of which none waits
pub closed_again : (rs : List TreeNode) → closed_in (map closed_node rs) ≡ rs
closed_again [] = refl
closed_again (r ∷ rs) = ap (λ (xs : List TreeNode). r ∷ xs) (closed_again rs)

none_of_closed : (rs : List TreeNode) → NoneWaits (map closed_node rs)
none_of_closed [] = refl
none_of_closed (r ∷ rs) = none_of_closed rs

module _ (nodes : ℕ) (p : Problem) (sound : IsProblem p) (first : Standing) (opens : IsOpening p first.path) (exact : first.value ≡ value_of p first.path) where
  gapped_from : (plan : GapPlan) → GapAccepts p plan → plan.numbers ≡ numbers_for p → IsAtLeast plan.standing first → LetsBranch p first (closed_in plan.nodes) → length (closed_in plan.nodes) ≤ nodes →
      (¬ NoneWaits plan.nodes → RanOut p first.path nodes (length (closed_in plan.nodes))) → IsGapped nodes p plan
  gapped_from plan accepts numbers up branches few ran = record {
    accepted = accepts;
    numbers = numbers;
    ceiling = λ y path. ceiling_is_above p plan y sound accepts path;
    opening = first.path;
    is_opening = opens;
    at_least = subst (IsAtLeast plan.standing) (opening_standing p first exact) up;
    branches = subst (λ (t : Standing). LetsBranch p t (closed_in plan.nodes)) (opening_standing p first exact) branches;
    few = few;
    none_wait = λ none. none_waiting_is_best p plan sound none accepts;
    some_wait = ran;
  }

  -- the plan of a search that came to its end
  pub found_gapped : (plan : Plan) → IsBest p plan.standing.path → Accepts p plan → LetsBranch p first plan.tree → length plan.tree ≤ nodes → IsGapped nodes p (gap_of (numbers_for p) plan)
  found_gapped plan best accepts branches few =
      let up = best_at_least p plan.standing first.path accepts.value best opens.path in
      gapped_from (gap_of (numbers_for p) plan) ((plan_is_gap_plan (numbers_for p) p plan).0 accepts) refl (subst (IsAtLeast plan.standing) (sym (opening_standing p first exact)) up)
      (subst (LetsBranch p first) (sym (closed_again plan.tree)) branches)
      (omega (arith, ap length (closed_again plan.tree), few))
      (λ some. absurd (some (none_of_closed plan.tree)))

  -- and that of one whose records ran out
  pub full_gapped : (plan : GapPlan) (closed : List TreeNode) → GapAccepts p plan → plan.numbers ≡ numbers_for p → IsAtLeast plan.standing first → LetsBranch p first closed → IsPermutation closed (closed_in plan.nodes) →
      length closed ≡ nodes → HasMoreLive p first nodes → IsGapped nodes p plan
  full_gapped plan closed accepts numbers up branches same all more =
      let used : length (closed_in plan.nodes) ≡ nodes = length_permutation closed (closed_in plan.nodes) same ∙ all in
      gapped_from plan accepts numbers up
      (All-permutation (λ (r : TreeNode). r.kind ≡ Branch → IsClosed p first r.prefix Branch) closed (closed_in plan.nodes) same branches)
      (omega (arith, used))
      (λ some. record { used = used; more = more_live p first nodes exact more })

-- a good node can be written
node_printable : (numbers : Numbers) (p : Problem) (s : Standing) (q : List ℕ) (kind : GapKind) → IsProblem p → IsGoodOpenKind numbers p s q kind → IsPrintableKind p (shape_of_kind kind)
node_printable numbers p s q (Closed kind) sound good = kind_printable p sound s q kind good
node_printable numbers p s q (Waiting n) sound good = tt

-- so an accepted gap plan can
pub gap_printable : (p : Problem) (plan : GapPlan) → IsProblem p → plan.numbers ≡ numbers_for p → GapAccepts p plan → length plan.nodes ≤ MOST_GAP_NODES → IsPrintableGap p plan
gap_printable p plan sound numbers accepts few = record {
  some = omega (arith, accepts.path.whole, sound.horizon);
  short = omega (arith, accepts.path.whole, sound.horizon);
  positions = follows_positions p sound plan.standing plan.standing.path accepts.path.follows;
  few = few;
  kinds = All-weaker (IsGoodOpen plan.numbers p plan.standing) (λ node. IsPrintableKind p (shape_of node).kind) (λ node good. node_printable plan.numbers p plan.standing node.prefix node.kind sound good) plan.nodes accepts.good;
  letters = gap_lettered p plan numbers accepts;
}
