-- The text of a plan or of a gap plan is the same for problems that are the same search.
use Rattle.std.proofs.Common.{ℕ, ◌≡◌, List, [], ◌∷◌, map, refl, ap, ◌∙◌}
use Rattle.std.proofs.lemmas.List.Elements.{All-weaker}
use Rattle.search_model.specs.Problem.{Problem, position_name}
use Rattle.search_model.specs.Same.{AreSame}
use Rattle.search_model.specs.Names.{name_in}
use Rattle.bound_tree.specs.declared.node.Kind.{Kind}
use Rattle.bound_tree.specs.declared.node.Kind.TheVariants.{Branch, Whole, Mean, Tangent, Edge, Exchange, TwoLooks}
use Rattle.bound_tree.specs.declared.node.TreeNode.{TreeNode}
use Rattle.bound_tree.specs.declared.plan.Plan.{Plan}
use Rattle.bound_tree.specs.declared.gap.GapPlan.{GapPlan}
use Rattle.bound_tree.specs.Gaps.{shape_of, gap_of}
use Rattle.bound_tree.proofs.SamePlans.{in_place_same}
use Rattle.tree_format.specs.declared.plan_line.Dialect.{Dialect}
use Rattle.tree_format.specs.declared.plan_line.Prefixes.{Prefixes}
use Rattle.tree_format.specs.declared.plan_line.Prefixes.TheVariants.{Written, LeftOut}
use Rattle.tree_format.specs.Dialects.{prefixes_in, numbers_in, dialect_with}
use Rattle.tree_format.specs.PlanText.{text_in, ArePositions, IsPrintableKind, IsPrintableRecord, IsPrintable, HavePlaces, IsPlanTextIn, IsTextOfPlan, IsPrintableGap, IsGapText}
use Rattle.tree_format.specs.TextLaws.{SameSearchSameTexts, SameSearchSameGapText}

module _ (p o : Problem) (same : AreSame p o) where
  places_same : (q : List ℕ) → ArePositions p q → ArePositions o q
  places_same q places = rw (← same.positions) places

  kind_same : (kind : Kind) → IsPrintableKind p kind → IsPrintableKind o kind
  kind_same Branch printable = printable
  kind_same (Whole n) printable = printable
  kind_same (Mean b) printable = printable
  kind_same (Tangent b reference) printable = (places_same reference printable.0, printable.1 ∙ same.horizon)
  kind_same (Edge b) printable = printable
  kind_same (Exchange b u) printable = rw (← same.positions) printable
  kind_same (TwoLooks b) printable = printable

  record_same : (r : TreeNode) → IsPrintableRecord p r → IsPrintableRecord o r
  record_same r printable = record { positions = places_same r.prefix printable.positions; short = rw (← same.horizon) printable.short; kind = kind_same r.kind printable.kind }

  plan_same : (plan : Plan) → IsPrintable p plan → IsPrintable o plan
  plan_same plan printable = record {
    some = printable.some;
    short = printable.short;
    positions = places_same plan.standing.path printable.positions;
    few = printable.few;
    records = All-weaker (IsPrintableRecord p) (IsPrintableRecord o) record_same plan.tree printable.records;
  }

  -- the names stand in it, and no other part of the problem
  text_same : (v : Dialect) (plan : GapPlan) → text_in v p plan ≡ text_in v o plan
  text_same v plan =
      let names : map (position_name p) plan.standing.path ≡ map (position_name o) plan.standing.path = ap (λ (all : List (List ℕ)). map (name_in all) plan.standing.path) same.position_names in
      rw names refl

  have_places_same : (w : Prefixes) (expected : List (List ℕ)) (records : List TreeNode) → HavePlaces w p expected records → HavePlaces w o expected records
  have_places_same Written expected records placed = tt
  have_places_same LeftOut expected records placed = in_place_same p o same expected records placed

  text_in_same : (v : Dialect) (plan : Plan) (text : List ℕ) → IsPlanTextIn v p plan text → IsPlanTextIn v o plan text
  text_in_same v plan text is = record {
    printable = plan_same plan is.printable;
    narrow = is.narrow;
    letters = is.letters;
    in_place = have_places_same (prefixes_in v) ([] ∷ []) plan.tree is.in_place;
    spelled = is.spelled ∙ text_same v (gap_of (numbers_in v) plan);
  }

  plan_text_same : (plan : Plan) (text : List ℕ) → IsTextOfPlan p plan text → IsTextOfPlan o plan text
  plan_text_same plan text (v, plans, is) = (v, plans, text_in_same v plan text is)

  gap_same : (plan : GapPlan) → IsPrintableGap p plan → IsPrintableGap o plan
  gap_same plan printable = record {
    some = printable.some;
    short = printable.short;
    positions = places_same plan.standing.path printable.positions;
    few = printable.few;
    kinds = All-weaker (λ node. IsPrintableKind p (shape_of node).kind) (λ node. IsPrintableKind o (shape_of node).kind) (λ node printable. kind_same (shape_of node).kind printable) plan.nodes printable.kinds;
    letters = printable.letters;
  }

  gap_text_same : (plan : GapPlan) (text : List ℕ) → IsGapText p plan text → IsGapText o plan text
  gap_text_same plan text is = record {
    printable = gap_same plan is.printable;
    narrow = is.narrow;
    in_place = in_place_same p o same ([] ∷ []) (map shape_of plan.nodes) is.in_place;
    spelled = is.spelled ∙ text_same (dialect_with plan.numbers) plan;
  }

pub same_search_same_texts : SameSearchSameTexts
same_search_same_texts p o plan text same is = plan_text_same p o same plan text is

pub same_search_same_gap_text : SameSearchSameGapText
same_search_same_gap_text p o plan text same is = gap_text_same p o same plan text is
