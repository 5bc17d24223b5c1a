-- What the items of a text say of its plan, as a reader collects them.
use Rattle.std.specs.Prelude.{ℕ, ◌≡◌, List, [], ◌∷◌, ◌++◌}
use Rattle.search_model.specs.Problem.{Problem}
use Rattle.bound_tree.specs.declared.plan.Plan.{Plan}
use Rattle.bound_tree.specs.declared.gap.GapPlan.{GapPlan}
use Rattle.bound_tree.specs.Gaps.{plan_of}
use Rattle.tree_format.specs.declared.collecting.Collected.{Collected}
use Rattle.tree_format.specs.declared.plan_line.Family.{Family}
use Rattle.tree_format.specs.declared.plan_line.Family.TheVariants.{Plans, Gaps}
use Rattle.tree_format.specs.declared.plan_item.PlanItem.{PlanItem}
use Rattle.tree_format.specs.declared.plan_item.PlanItem.TheVariants.{Head, Node, End}
use Rattle.tree_format.specs.Reading.{blank_plan}
use Rattle.tree_format.specs.FeedSteps.{Stand}
use Rattle.tree_format.specs.Feeding.{HasRead}

-- a plan with what an item more says
abbrev pub with_item : GapPlan → PlanItem → GapPlan
with_item plan (Head standing weight ceiling numbers count) = record { standing = standing; weight = weight; ceiling = ceiling; numbers = numbers; nodes = plan.nodes }
with_item plan (Node r) = record { standing = plan.standing; weight = plan.weight; ceiling = plan.ceiling; numbers = plan.numbers; nodes = plan.nodes ++ r ∷ [] }
with_item plan End = plan

-- and with what items more say, one after the other
abbrev pub with_items : GapPlan → List PlanItem → GapPlan
with_items plan [] = plan
with_items plan (item ∷ more) = with_items (with_item plan item) more

-- the plan of what was collected
abbrev pub plan_in : Collected → Plan
plan_in kept = record { standing = kept.standing; weight = kept.weight; tree = kept.records.items }

-- and the gap plan
abbrev pub gap_in : Collected → GapPlan
gap_in kept = record { standing = kept.standing; weight = kept.weight; ceiling = kept.ceiling; numbers = kept.numbers; nodes = kept.nodes.items }

-- of the texts of plans a plan is kept, and of those of gap plans a gap plan
abbrev pub Keeps : Family → Collected → GapPlan → Type 0
Keeps Plans kept plan = plan_in kept ≡ plan_of plan
Keeps Gaps kept plan = gap_in kept ≡ plan

-- a feed has read these bytes, and what their items say is kept
pub record HasCollected (family : Family) (p : Problem) (fed : List ℕ) (feed : Stand) (kept : Collected) : Type 0 where
  pub items : List PlanItem
  pub read : HasRead family p fed items feed
  pub keeps : Keeps family kept (with_items blank_plan items)
