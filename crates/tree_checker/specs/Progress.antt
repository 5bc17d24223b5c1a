-- What a checker keeps of a plan or gap plan that it is given piece by piece.
use Rattle.std.specs.Prelude.{ℕ, ◌≡◌, ◌⊎◌, List, [], ◌∷◌, map, All, Option, None, IfNone}
use Rattle.std.specs.Option.{option_or, option_map}
use Rattle.search_model.specs.declared.standing.Standing.{Standing}
use Rattle.search_model.specs.Problem.{Problem}
use Rattle.search_model.specs.Legal.{IsLegal}
use Rattle.bound_tree.specs.declared.node.TreeNode.{TreeNode}
use Rattle.bound_tree.specs.declared.gap.Numbers.{Numbers}
use Rattle.bound_tree.specs.declared.gap.Numbers.TheVariants.{Means}
use Rattle.bound_tree.specs.declared.gap.GapNode.{GapNode}
use Rattle.bound_tree.specs.Close.{IsExact}
use Rattle.bound_tree.specs.Gaps.{open_numbers, closed_node}
use Rattle.tree_checker.specs.declared.tables.BoundTables.{BoundTables}
use Rattle.tree_checker.specs.declared.verdict.RejectAt.{RejectAt}
use Rattle.tree_checker.specs.declared.gap_verdict.GapRejectAt.{GapRejectAt}
use Rattle.tree_checker.specs.Reasons.{head_reason, end_reason, nodes_reason, ceiling_reason, as_plain}
use Rattle.tree_checker.specs.Tables.{AreMadeFor}

-- the standing, which bounds the numbers of waiting nodes are, the first reason so far of the head and the nodes, the prefixes that are expected next, the line of the next
-- node, the greatest of the value and the numbers of waiting nodes so far, and the tables of the bounds
pub record Progress : Type 0 where
  pub standing : Standing
  pub numbers : Numbers
  pub reason : Option GapRejectAt
  pub expected : List (List ℕ)
  pub line : ℕ
  pub most : ℕ
  pub tables : BoundTables

-- nothing was read
abbrev pub at_start : BoundTables → Progress
at_start tables = record {
  standing = record { path = []; value = 0 };
  numbers = Means;
  reason = None;
  expected = [];
  line = 5;
  most = 0;
  tables = tables;
}

-- the head was read, of a gap plan with these numbers: the empty prefix is expected, in this line
abbrev pub begun_at : ℕ → Numbers → Problem → BoundTables → Standing → ℕ → Progress
begun_at line numbers p tables s weight = record {
  standing = s;
  numbers = numbers;
  reason = head_reason p s weight;
  expected = [] ∷ [];
  line = line;
  most = s.value;
  tables = tables;
}

-- that of a plan, in which no node waits
abbrev pub after_head : Problem → BoundTables → Standing → ℕ → Progress
after_head p tables s weight = begun_at 5 Means p tables s weight

-- that of a gap plan
abbrev pub after_gap_head : Numbers → Problem → BoundTables → Standing → ℕ → Progress
after_gap_head numbers p tables s weight = begun_at 6 numbers p tables s weight

-- the first reason, should these nodes follow and then the end, with this ceiling in the head
abbrev pub gap_reason_if : Problem → Progress → ℕ → List GapNode → Option GapRejectAt
gap_reason_if p g ceiling nodes =
    option_or g.reason (option_or (nodes_reason g.numbers p g.standing g.line nodes g.expected) (ceiling_reason ceiling (g.most ∷ open_numbers nodes)))

-- the first reason, should the end follow
abbrev pub gap_reason_at_end : Progress → ℕ → Option GapRejectAt
gap_reason_at_end g ceiling = option_or g.reason (option_or (end_reason g.line g.expected) (ceiling_reason ceiling (g.most ∷ [])))

-- the first reason against a plan, should these records follow and then the end: its ceiling is its value
abbrev pub reason_if : Problem → Progress → List TreeNode → Option RejectAt
reason_if p g rs = option_map as_plain (gap_reason_if p g g.standing.value (map closed_node rs))

-- the first reason against a plan, should the end follow
abbrev pub reason_at_end : Progress → Option RejectAt
reason_at_end g = option_map as_plain (gap_reason_at_end g g.standing.value)

-- only legal prefixes are expected, and where one is and there is no reason yet, the plan's path has its exact value
pub record IsUnderWay (p : Problem) (g : Progress) : Type 0 where
  pub legal : All (IsLegal p) g.expected
  pub exact : IfNone g.reason ((g.expected ≡ []) ⊎ IsExact p g.standing)

-- the checker was made for the scenario
abbrev pub IsMadeFor : Problem → Progress → Type 0
IsMadeFor p g = AreMadeFor p g.tables
