-- What holds of feeding the text of a plan.
use Rattle.std.specs.Prelude.{ℕ, ◌≡◌, ◌≤◌, ◌⊎◌, List, [], ◌∷◌, ◌++◌, map, length, take, Ok, Err}
use Rattle.search_model.specs.declared.standing.Standing.{Standing}
use Rattle.search_model.specs.Problem.{Problem, IsProblem}
use Rattle.bound_tree.specs.declared.gap.Numbers.{Numbers}
use Rattle.bound_tree.specs.declared.gap.GapNode.{GapNode}
use Rattle.bound_tree.specs.declared.gap.GapPlan.{GapPlan}
use Rattle.tree_format.specs.declared.plan_line.Family.{Family}
use Rattle.tree_format.specs.declared.kind.PlanFault.{PlanFault}
use Rattle.tree_format.specs.declared.plan_item.PlanItem.{PlanItem}
use Rattle.tree_format.specs.declared.plan_item.PlanItem.TheVariants.{Head, Node, End}
use Rattle.text_rows.specs.Fields.{exact_fields}
use Rattle.tree_format.specs.Reading.{text_at, summary_of}
use Rattle.tree_format.specs.Gathering.{nothing_gathered, gathered}
use Rattle.tree_format.specs.FeedSteps.{Stand}
use Rattle.tree_format.specs.Feeding.{items_of, HasRead, Tells, IsDecided, IsCutOff}
use Rattle.tree_format.specs.Dialects.{most_records}

-- the bytes alone decide which items were told and what a feed keeps, and not how they were cut into pieces
abbrev pub CutAnywhere : Type 0
CutAnywhere = (family : Family) (p : Problem) (fed : List ℕ) (items others : List PlanItem) (feed other : Stand) → HasRead family p fed items feed → HasRead family p fed others other → (items ≡ others) × (feed ≡ other)

-- items that were told are the first of those of the plan that is read, whatever bytes complete its text
abbrev pub ItemsOfThePlan : Type 0
ItemsOfThePlan = (family : Family) (p : Problem) (fed more : List ℕ) (items : List PlanItem) (plan : GapPlan) → IsProblem p → Tells family p fed items → text_at family p (fed ++ more) ≡ Ok plan → (later : List PlanItem) × (items ++ later ≡ items_of plan)

-- so many first bytes of a text decide its fault
pub record IsMet (family : Family) (p : Problem) (text : List ℕ) (fault : PlanFault) : Type 0 where
  pub count : ℕ
  pub within : count ≤ length text
  pub decided : IsDecided family p (take count text) fault

-- the fault of a text is that its bytes end early, or first bytes decide it
abbrev pub EachFaultIsMet : Type 0
EachFaultIsMet = (family : Family) (p : Problem) (text : List ℕ) (fault : PlanFault) → IsProblem p → text_at family p text ≡ Err fault → IsMet family p text fault ⊎ ((items : List PlanItem) × Tells family p text items × IsCutOff family p text fault)

-- where a fault is decided no item is told any more
abbrev pub FaultIsLast : Type 0
FaultIsLast = (family : Family) (p : Problem) (fed : List ℕ) (items : List PlanItem) (fault : PlanFault) → Tells family p fed items → IsDecided family p fed fault → ⊥

-- a head, at most as many records as it says, which are as many as there may be, and the end behind as many
pub record AreInOrder (family : Family) (items : List PlanItem) : Type 0 where
  pub standing : Standing
  pub weight : ℕ
  pub ceiling : ℕ
  pub numbers : Numbers
  pub nodes : ℕ
  pub records : List GapNode
  pub few : nodes ≤ most_records family
  pub within : length records ≤ nodes
  pub order : (items ≡ Head standing weight ceiling numbers nodes ∷ map (λ r. Node r) records) ⊎ ((length records ≡ nodes) × (items ≡ Head standing weight ceiling numbers nodes ∷ (map (λ r. Node r) records ++ End ∷ [])))

-- the items that bytes tell are none, or stand in that order
abbrev pub ItemsInOrder : Type 0
ItemsInOrder = (family : Family) (p : Problem) (fed : List ℕ) (items : List PlanItem) → IsProblem p → Tells family p fed items → (items ≡ []) ⊎ AreInOrder family items

-- of a line the first 40 bytes of each of its first 70 fields are kept
abbrev pub GatheredIsSummary : Type 0
GatheredIsSummary = (line : List ℕ) → exact_fields (gathered nothing_gathered line).text ≡ summary_of (exact_fields line)
