-- A plan can be written as a gap plan where it can be written.
use Rattle.std.proofs.Common.{◌≡◌, [], ◌∷◌, refl, sym, subst, arith}
use Rattle.std.proofs.lemmas.List.{length-map}
use Rattle.std.proofs.lemmas.List.Elements.{All-map, All-weaker}
use Rattle.search_model.specs.Problem.{Problem}
use Rattle.bound_tree.specs.declared.gap.Numbers.{Numbers}
use Rattle.bound_tree.specs.declared.gap.GapNode.{GapNode}
use Rattle.bound_tree.specs.declared.node.TreeNode.{TreeNode}
use Rattle.bound_tree.specs.declared.plan.Plan.{Plan}
use Rattle.bound_tree.specs.declared.tree.TheConstants.{MOST_NODES}
use Rattle.bound_tree.specs.Gaps.{shape_of, closed_node, gap_of}
use Rattle.bound_tree.specs.Places.{AreInPlace}
use Rattle.bound_tree.proofs.Ceilings.{shapes_of_closed}
use Rattle.tree_format.specs.declared.dialects.TheConstants.{MOST_GAP_NODES}
use Rattle.tree_format.specs.Dialects.{dialect_with}
use Rattle.tree_format.specs.PlanText.{HasNodeLetter, HasLetters, IsPrintable, IsPrintableKind, IsPrintableRecord, IsNarrow, IsNarrowNode, IsPrintableGap, IsNarrowGap, IsGapText, gap_text}

closed_printable : (numbers : Numbers) (p : Problem) (plan : Plan) → IsPrintable p plan → HasLetters (dialect_with numbers) plan → IsPrintableGap p (gap_of numbers plan)
closed_printable numbers p plan is letters =
    let least : MOST_NODES ≡ 1048576 = refl in
    let most : MOST_GAP_NODES ≡ 4194305 = refl in
    record {
      some = is.some;
      short = is.short;
      positions = is.positions;
      few = omega (arith, is.few, least, most, length-map plan.tree closed_node);
      kinds = All-map (λ (r : GapNode). IsPrintableKind p (shape_of r).kind) closed_node plan.tree (All-weaker (IsPrintableRecord p) (λ (r : TreeNode). IsPrintableKind p r.kind) (λ r printable. printable.kind) plan.tree is.records);
      letters = All-map (λ (r : GapNode). HasNodeLetter (dialect_with numbers) r.kind) closed_node plan.tree letters;
    }

closed_narrow : (numbers : Numbers) (plan : Plan) → IsNarrow plan → IsNarrowGap (gap_of numbers plan)
closed_narrow numbers plan is = record {
  value = is.value;
  weight = is.weight;
  ceiling = is.value;
  nodes = All-map (λ (r : GapNode). IsNarrowNode r.kind) closed_node plan.tree is.records;
}

-- its text as a gap plan is the one that this has
pub closed_text : (numbers : Numbers) (p : Problem) (plan : Plan) → IsPrintable p plan → IsNarrow plan → HasLetters (dialect_with numbers) plan → AreInPlace p ([] ∷ []) plan.tree → IsGapText p (gap_of numbers plan) (gap_text p (gap_of numbers plan))
closed_text numbers p plan is narrow letters placed = record {
  printable = closed_printable numbers p plan is letters;
  narrow = closed_narrow numbers plan narrow;
  in_place = subst (AreInPlace p ([] ∷ [])) (sym (shapes_of_closed plan.tree)) placed;
  spelled = refl;
}
