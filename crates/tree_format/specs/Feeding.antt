-- What the bytes that were fed say: whole lines, and the beginning of the next.
use Rattle.std.specs.Prelude.{ℕ, ◌≡◌, ◌+◌, ◌≤◌, List, [], ◌∷◌, ◌++◌, map, length, Ok, Err, All}
use Rattle.search_model.specs.Problem.{Problem}
use Rattle.bound_tree.specs.declared.gap.GapKind.{GapKind}
use Rattle.bound_tree.specs.declared.gap.GapKind.TheVariants.{Closed, Waiting}
use Rattle.bound_tree.specs.declared.gap.GapNode.{GapNode}
use Rattle.bound_tree.specs.declared.gap.GapPlan.{GapPlan}
use Rattle.bound_tree.specs.Gaps.{shape_of}
use Rattle.tree_format.specs.declared.kind.PlanKind.TheVariants.{EarlyEnd}
use Rattle.tree_format.specs.declared.kind.PlanFault.{PlanFault}
use Rattle.tree_format.specs.declared.plan_line.Family.{Family}
use Rattle.tree_format.specs.declared.plan_line.Family.TheVariants.{Plans, Gaps}
use Rattle.tree_format.specs.declared.plan_line.Stage.{Stage}
use Rattle.tree_format.specs.declared.plan_line.Stage.TheVariants as due
use Rattle.tree_format.specs.declared.plan_item.PlanItem.{PlanItem}
use Rattle.tree_format.specs.declared.plan_item.PlanItem.TheVariants.{Head, Node, End}
use Rattle.tree_format.specs.declared.plan_item.Step.{Step}
use Rattle.tree_format.specs.declared.plan_item.Step.TheVariants.{More, Item, Fault}
use Rattle.tree_format.specs.PlanText.{ArePositions, IsPrintableRecord}
use Rattle.text_rows.specs.LineMachine.{AreTaken}
use Rattle.text_rows.specs.Lines.{HasNoFeed, lines_text}
use Rattle.tree_format.specs.Reading.{Progress, unread, plan_lines, text_at}
use Rattle.tree_format.specs.FeedSteps.{Stand, stand_at}
use Rattle.tree_format.specs.Dialects.{most_records}

-- the items of a gap plan, and so of a plan: its head, its nodes in their order, and its end
abbrev pub items_of : GapPlan → List PlanItem
items_of plan = Head plan.standing plan.weight plan.ceiling plan.numbers (length plan.nodes) ∷ (map (λ r. Node r) plan.nodes ++ End ∷ [])

-- those that the lines of a plan have told where this is due
abbrev pub told : Stage → GapPlan → List PlanItem
told (due.Version family) plan = []
told due.Path plan = []
told due.Chance plan = []
told due.Ceiling plan = []
told due.Count plan = []
told (due.Records left) plan = Head plan.standing plan.weight plan.ceiling plan.numbers (length plan.nodes + left) ∷ map (λ r. Node r) plan.nodes
told due.Ended plan = items_of plan

-- These bytes are right lines and the beginning of the next, and nothing stands behind the end. The lines tell these items,
-- each of them once, and this is what a feed keeps.
pub record HasRead (family : Family) (p : Problem) (fed : List ℕ) (items : List PlanItem) (feed : Stand) : Type 0 where
  pub before : List (List ℕ)
  pub reached : Progress
  pub begun : List ℕ
  pub whole : fed ≡ lines_text before ++ begun
  pub feeds : All HasNoFeed before
  pub open_line : HasNoFeed begun
  pub right : AreTaken (plan_lines p) (unread family) before reached
  pub behind_end : reached.due.stage ≡ due.Ended → begun ≡ []
  pub tell : items ≡ told reached.due.stage reached.plan
  pub stand : feed ≡ stand_at (1 + length before) reached.due reached.plan begun

-- this holds of any family, bytes and items that a feed has read
abbrev pub IfRead : Problem → Stand → (Family → List ℕ → List PlanItem → Type 0) → Type 0
IfRead p feed P = (family : Family) (fed : List ℕ) (items : List PlanItem) → HasRead family p fed items feed → P family fed items

-- these bytes have no fault so far, and their lines tell these items
abbrev pub Tells : Family → Problem → List ℕ → List PlanItem → Type 0
Tells family p fed items = (feed : Stand) × HasRead family p fed items feed

-- this is the fault of the bytes, whatever follows them
abbrev pub IsDecided : Family → Problem → List ℕ → PlanFault → Type 0
IsDecided family p fed fault = (more : List ℕ) → text_at family p (fed ++ more) ≡ Err fault

-- these bytes are a text of the family, and these are its items
pub record IsWhole (family : Family) (p : Problem) (fed : List ℕ) (items : List PlanItem) : Type 0 where
  pub plan : GapPlan
  pub spelled : text_at family p fed ≡ Ok plan
  pub tell : items ≡ items_of plan

-- the bytes end before the line feed of the line that is due
pub record IsCutOff (family : Family) (p : Problem) (fed : List ℕ) (fault : PlanFault) : Type 0 where
  pub first : text_at family p fed ≡ Err fault
  pub early : fault.kind ≡ EarlyEnd

-- a path of positions of the problem, and as many records as there may be
pub record IsHead (family : Family) (p : Problem) (path : List ℕ) (nodes : ℕ) : Type 0 where
  pub positions : ArePositions p path
  pub some : 1 ≤ length path
  pub short : length path ≤ 32
  pub few : nodes ≤ most_records family

-- in a plan all nodes are closed
abbrev pub IsKindOf : Family → GapKind → Type 0
IsKindOf Plans (Closed kind) = Unit {0}
IsKindOf Plans (Waiting n) = ⊥
IsKindOf Gaps kind = Unit {0}

-- a prefix of the problem's positions is within the horizon, and a reference is as long
pub record IsNode (family : Family) (p : Problem) (node : GapNode) : Type 0 where
  pub printable : IsPrintableRecord p (shape_of node)
  pub kind : IsKindOf family node.kind

abbrev pub IsItem : Family → Problem → PlanItem → Type 0
IsItem family p (Head standing weight ceiling numbers nodes) = IsHead family p standing.path nodes
IsItem family p (Node r) = IsNode family p r
IsItem family p End = Unit {0}

-- this holds of a step that is an item, of one that is a fault, or of one that is neither
abbrev pub IfItem : Step → (PlanItem → Type 0) → Type 0
IfItem More P = Unit {0}
IfItem (Item told) P = P told
IfItem (Fault fault) P = Unit {0}

abbrev pub IfFaulty : Step → (PlanFault → Type 0) → Type 0
IfFaulty More P = Unit {0}
IfFaulty (Item told) P = Unit {0}
IfFaulty (Fault fault) P = P fault

abbrev pub IfMore : Step → Type 0 → Type 0
IfMore More P = P
IfMore (Item told) P = Unit {0}
IfMore (Fault fault) P = Unit {0}

-- what follows from a byte more
abbrev pub GoesOn : Family → Problem → List ℕ → List PlanItem → Step → Stand → Type 0
GoesOn family p fed items More feed = HasRead family p fed items feed
GoesOn family p fed items (Item told) feed = HasRead family p fed (items ++ told ∷ []) feed × IsItem family p told
GoesOn family p fed items (Fault fault) feed = IsDecided family p fed fault
