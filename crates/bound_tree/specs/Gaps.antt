-- Gap plans: what a search that stopped early has proved all the same.
use Rattle.std.specs.Prelude.{ℕ, ◌≡◌, ◌==◌, nat_lt, min, if◌then◌else◌, List, [], ◌∷◌, map, length, All}
use Rattle.std.specs.List.{flat_map}
use Rattle.search_model.specs.declared.standing.Standing.{Standing}
use Rattle.search_model.specs.Problem.{Problem}
use Rattle.search_model.specs.Legal.{IsPath}
use Rattle.search_model.specs.Tracks.{value_of, whole_weight}
use Rattle.search_model.specs.Bounds.{greatest, mean_of}
use Rattle.search_model.specs.Edge.{edge_of}
use Rattle.bound_tree.specs.declared.node.Kind.{Kind}
use Rattle.bound_tree.specs.declared.node.Kind.TheVariants.{Mean}
use Rattle.bound_tree.specs.declared.node.TreeNode.{TreeNode}
use Rattle.bound_tree.specs.declared.plan.Plan.{Plan}
use Rattle.bound_tree.specs.declared.gap.Numbers.{Numbers}
use Rattle.bound_tree.specs.declared.gap.Numbers.TheVariants.{Means, Edges}
use Rattle.bound_tree.specs.declared.gap.GapKind.{GapKind}
use Rattle.bound_tree.specs.declared.gap.GapKind.TheVariants.{Closed, Waiting}
use Rattle.bound_tree.specs.declared.gap.GapNode.{GapNode}
use Rattle.bound_tree.specs.declared.gap.GapPlan.{GapPlan}
use Rattle.bound_tree.specs.Accepts.{IsGoodKind}
use Rattle.bound_tree.specs.Places.{AreInPlace}

-- how a record would be closed that stands where a node does: a waiting node stands like a leaf, and any leaf would do
abbrev pub shape_of_kind : GapKind → Kind
shape_of_kind (Closed kind) = kind
shape_of_kind (Waiting n) = Mean 0

-- a node as a record; the number of a waiting one has no part in where records stand
abbrev pub shape_of : GapNode → TreeNode
shape_of node = record { prefix = node.prefix; kind = shape_of_kind node.kind }

-- which numbers the gap plans of a problem are written with
abbrev pub numbers_for : Problem → Numbers
numbers_for p = if nat_lt p.horizon 4 then Means else Edges

-- what no path below a prefix that is shorter than a path exceeds: its mean bound; or its edge bound, or the whole weight
-- where that is less
abbrev pub open_bound : Numbers → Problem → List ℕ → ℕ
open_bound Means p q = mean_of p q
open_bound Edges p q = min (edge_of p q) (whole_weight p)

-- what no path below a prefix exceeds: the value of a path, the bound of a shorter prefix
abbrev pub ceiling_of : Numbers → Problem → List ℕ → ℕ
ceiling_of numbers p q = if length q == p.horizon then value_of p q else open_bound numbers p q

-- a node that is right by itself, under the plan's numbers and standing: a closed one like a record, a waiting one by its
-- number
abbrev pub IsGoodOpenKind : Numbers → Problem → Standing → List ℕ → GapKind → Type 0
IsGoodOpenKind numbers p s q (Closed kind) = IsGoodKind p s q kind
IsGoodOpenKind numbers p s q (Waiting n) = n ≡ ceiling_of numbers p q

abbrev pub IsGoodOpen : Numbers → Problem → Standing → GapNode → Type 0
IsGoodOpen numbers p s node = IsGoodOpenKind numbers p s node.prefix node.kind

-- the number of a node that waits; a closed one has none
abbrev pub open_number : GapKind → List ℕ
open_number (Closed kind) = []
open_number (Waiting n) = n ∷ []

-- the numbers of the waiting nodes
abbrev pub open_numbers : List GapNode → List ℕ
open_numbers nodes = flat_map (λ node. open_number node.kind) nodes

-- the path is a path with its exact value and the whole weight; the nodes are good and stand like the records of the empty
-- prefix's tree, a waiting one like a leaf; and the ceiling is the greatest of the value and all numbers of waiting nodes
pub record GapAccepts (p : Problem) (plan : GapPlan) : Type 0 where
  pub path : IsPath p plan.standing.path
  pub value : plan.standing.value ≡ value_of p plan.standing.path
  pub weight : plan.weight ≡ whole_weight p
  pub placed : AreInPlace p ([] ∷ []) (map shape_of plan.nodes)
  pub good : All (IsGoodOpen plan.numbers p plan.standing) plan.nodes
  pub ceiling : plan.ceiling ≡ greatest (plan.standing.value ∷ open_numbers plan.nodes)

-- no node waits: all are closed
abbrev pub NoneWaits : List GapNode → Type 0
NoneWaits nodes = open_numbers nodes ≡ []

-- the plan of the same standing, the same weight and the closed nodes
abbrev pub plan_of : GapPlan → Plan
plan_of plan = record { standing = plan.standing; weight = plan.weight; tree = map shape_of plan.nodes }

-- a record as a closed node
abbrev pub closed_node : TreeNode → GapNode
closed_node r = record { prefix = r.prefix; kind = Closed r.kind }

-- a plan as a gap plan of either numbers: all nodes are closed, and the ceiling is the value
abbrev pub gap_of : Numbers → Plan → GapPlan
gap_of numbers plan = record { standing = plan.standing; weight = plan.weight; ceiling = plan.standing.value; numbers = numbers; nodes = map closed_node plan.tree }
