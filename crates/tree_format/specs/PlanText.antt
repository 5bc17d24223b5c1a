-- The text of a plan: it has one spelling of each version that has letters for its records, where these have the prefixes that
-- are expected if the version leaves them out. A gap plan has one spelling, of the version of its numbers, where its nodes
-- have letters and the prefixes that are expected. A plan is written as the gap plan in which all nodes are closed and the
-- ceiling is the value.
use Rattle.std.specs.Prelude.{ℕ, ◌^◌, ◌≡◌, ◌<◌, ◌≤◌, true, if◌then◌else◌, List, [], ◌∷◌, ◌++◌, map, length, codes, All}
use Rattle.std.specs.Fmt.{decimal}
use Rattle.text_rows.specs.Rows.{text_of}
use Rattle.search_model.specs.declared.standing.Standing.{Standing}
use Rattle.search_model.specs.Problem.{Problem, position_name}
use Rattle.bound_tree.specs.declared.node.Kind.{Kind}
use Rattle.bound_tree.specs.declared.node.Kind.TheVariants.{Branch, Whole, Mean, Tangent, Edge, Exchange, TwoLooks}
use Rattle.bound_tree.specs.declared.node.TreeNode.{TreeNode}
use Rattle.bound_tree.specs.declared.plan.Plan.{Plan}
use Rattle.bound_tree.specs.declared.gap.GapKind.{GapKind}
use Rattle.bound_tree.specs.declared.gap.GapKind.TheVariants.{Closed, Waiting}
use Rattle.bound_tree.specs.declared.gap.GapNode.{GapNode}
use Rattle.bound_tree.specs.declared.gap.GapPlan.{GapPlan}
use Rattle.bound_tree.specs.Gaps.{shape_of, gap_of}
use Rattle.bound_tree.specs.Places.{AreInPlace}
use Rattle.tree_format.specs.declared.plan_line.Dialect.{Dialect}
use Rattle.tree_format.specs.declared.plan_line.Family.TheVariants.{Plans}
use Rattle.tree_format.specs.declared.plan_line.Prefixes.{Prefixes}
use Rattle.tree_format.specs.declared.plan_line.Prefixes.TheVariants.{Written, LeftOut}
use Rattle.tree_format.specs.Dialects.{family_of, version_row, has_edges, has_exchanges, has_open, prefixes_in, numbers_in, dialect_with, plan_dialect_for}
use Rattle.tree_format.specs.declared.dialects.TheConstants.{MOST_GAP_NODES}
use Rattle.bound_tree.specs.declared.tree.TheConstants.{MOST_NODES}

-- position numbers as fields
abbrev pub numbers : List ℕ → List (List ℕ)
numbers q = map decimal q

-- a record: its letter, its number where it has one, its prefix, and the positions that it refers to
abbrev pub kind_fields : List ℕ → Kind → List (List ℕ)
kind_fields q Branch = codes "B" ∷ numbers q
kind_fields q (Whole value) = codes "W" ∷ decimal value ∷ numbers q
kind_fields q (Mean bound) = codes "M" ∷ decimal bound ∷ numbers q
kind_fields q (Tangent bound reference) = codes "T" ∷ decimal bound ∷ (numbers q ++ numbers reference)
kind_fields q (Edge bound) = codes "E" ∷ decimal bound ∷ numbers q
kind_fields q (Exchange bound u) = codes "X" ∷ decimal bound ∷ (numbers q ++ decimal u ∷ [])
kind_fields q (TwoLooks bound) = codes "D" ∷ decimal bound ∷ numbers q

-- a node that waits has its number as a bound
abbrev pub node_fields : List ℕ → GapKind → List (List ℕ)
node_fields q (Closed kind) = kind_fields q kind
node_fields q (Waiting n) = codes "O" ∷ decimal n ∷ numbers q

-- the prefix of a record as its line has it
abbrev pub written : Prefixes → List ℕ → List ℕ
written Written q = q
written LeftOut q = []

abbrev pub node_row : Dialect → GapNode → List (List ℕ)
node_row v node = node_fields (written (prefixes_in v) node.prefix) node.kind

-- the rows of the lines, each as its fields: the first line, `path NAME ..`, `chance V W`, `nodes N`
abbrev pub path_rows : Dialect → Problem → List ℕ → List (List (List ℕ))
path_rows v p q = version_row v ∷ (codes "path" ∷ map (position_name p) q) ∷ []

abbrev pub chance_row : ℕ → ℕ → List (List ℕ)
chance_row value weight = codes "chance" ∷ decimal value ∷ decimal weight ∷ []

abbrev pub ceiling_row : ℕ → List (List ℕ)
ceiling_row ceiling = codes "ceiling" ∷ decimal ceiling ∷ []

-- `ceiling N`, where a text has it
abbrev pub ceiling_rows : Dialect → ℕ → List (List (List ℕ))
ceiling_rows v ceiling = if has_open v then ceiling_row ceiling ∷ [] else []

abbrev pub count_row : ℕ → List (List ℕ)
count_row n = codes "nodes" ∷ decimal n ∷ []

-- all lines before the records, of which so many follow
abbrev pub head_rows : Dialect → Problem → Standing → ℕ → ℕ → ℕ → List (List (List ℕ))
head_rows v p s weight ceiling n = path_rows v p s.path ++ (chance_row s.value weight ∷ (ceiling_rows v ceiling ++ count_row n ∷ []))

-- and then the records, and `end`
abbrev pub plan_rows : Dialect → Problem → GapPlan → List (List (List ℕ))
plan_rows v p plan =
    head_rows v p plan.standing plan.weight plan.ceiling (length plan.nodes) ++ (map (node_row v) plan.nodes ++ (codes "end" ∷ []) ∷ [])

-- the text of that dialect
abbrev pub text_in : Dialect → Problem → GapPlan → List ℕ
text_in v p plan = text_of (plan_rows v p plan)

-- that of a plan
abbrev pub plan_text : Dialect → Problem → Plan → List ℕ
plan_text v p plan = text_in v p (gap_of (numbers_in v) plan)

-- that of a gap plan is of the dialect of its numbers
abbrev pub gap_text : Problem → GapPlan → List ℕ
gap_text p plan = text_in (dialect_with plan.numbers) p plan

-- all are positions of the problem
abbrev pub ArePositions : Problem → List ℕ → Type 0
ArePositions p q = All (λ a. a < p.positions) q

-- a reference is as long as the horizon, and what takes a place is a position
abbrev pub IsPrintableKind : Problem → Kind → Type 0
IsPrintableKind p Branch = Unit {0}
IsPrintableKind p (Whole value) = Unit {0}
IsPrintableKind p (Mean bound) = Unit {0}
IsPrintableKind p (Tangent bound reference) = ArePositions p reference × (length reference ≡ p.horizon)
IsPrintableKind p (Edge bound) = Unit {0}
IsPrintableKind p (Exchange bound u) = u < p.positions
IsPrintableKind p (TwoLooks bound) = Unit {0}

-- a record whose prefix is within the horizon
pub record IsPrintableRecord (p : Problem) (r : TreeNode) : Type 0 where
  pub positions : ArePositions p r.prefix
  pub short : length r.prefix ≤ p.horizon
  pub kind : IsPrintableKind p r.kind

-- what can be written and read again: a path of 1 to 32 positions and at most 1,048,576 records
pub record IsPrintable (p : Problem) (plan : Plan) : Type 0 where
  pub some : 1 ≤ length plan.standing.path
  pub short : length plan.standing.path ≤ 32
  pub positions : ArePositions p plan.standing.path
  pub few : length plan.tree ≤ MOST_NODES
  pub records : All (IsPrintableRecord p) plan.tree

-- numbers below 2 to the power 128, as all are that a program holds
abbrev pub IsNarrowKind : Kind → Type 0
IsNarrowKind Branch = Unit {0}
IsNarrowKind (Whole value) = value < 2 ^ 128
IsNarrowKind (Mean bound) = bound < 2 ^ 128
IsNarrowKind (Tangent bound reference) = bound < 2 ^ 128
IsNarrowKind (Edge bound) = bound < 2 ^ 128
IsNarrowKind (Exchange bound u) = bound < 2 ^ 128
IsNarrowKind (TwoLooks bound) = bound < 2 ^ 128

pub record IsNarrow (plan : Plan) : Type 0 where
  pub value : plan.standing.value < 2 ^ 128
  pub weight : plan.weight < 2 ^ 128
  pub records : All (λ r. IsNarrowKind r.kind) plan.tree

-- a dialect has a letter for records of this kind
abbrev pub HasLetter : Dialect → Kind → Type 0
HasLetter v Branch = Unit {0}
HasLetter v (Whole value) = Unit {0}
HasLetter v (Mean bound) = Unit {0}
HasLetter v (Tangent bound reference) = Unit {0}
HasLetter v (Edge bound) = has_edges v ≡ true
HasLetter v (Exchange bound u) = has_exchanges v ≡ true
HasLetter v (TwoLooks bound) = has_exchanges v ≡ true

-- and for nodes of this kind
abbrev pub HasNodeLetter : Dialect → GapKind → Type 0
HasNodeLetter v (Closed kind) = HasLetter v kind
HasNodeLetter v (Waiting n) = has_open v ≡ true

-- it has letters for all records of a plan
abbrev pub HasLetters : Dialect → Plan → Type 0
HasLetters v plan = All (λ r. HasLetter v r.kind) plan.tree

-- the dialect of a gap plan's numbers has letters for all its nodes
abbrev pub HasGapLetters : GapPlan → Type 0
HasGapLetters plan = All (λ node. HasNodeLetter (dialect_with plan.numbers) node.kind) plan.nodes

-- where a text leaves the prefixes of its records out, these have the prefixes that are expected
abbrev pub HavePlaces : Prefixes → Problem → List (List ℕ) → List TreeNode → Type 0
HavePlaces Written p expected records = Unit {0}
HavePlaces LeftOut p expected records = AreInPlace p expected records

-- the bytes are the one text of this dialect of this plan, which has one
pub record IsPlanTextIn (v : Dialect) (p : Problem) (plan : Plan) (text : List ℕ) : Type 0 where
  pub printable : IsPrintable p plan
  pub narrow : IsNarrow plan
  pub letters : HasLetters v plan
  pub in_place : HavePlaces (prefixes_in v) p ([] ∷ []) plan.tree
  pub spelled : text ≡ plan_text v p plan

-- they are the text of this plan in one of the dialects of plans
abbrev pub IsTextOfPlan : Problem → Plan → List ℕ → Type 0
IsTextOfPlan p plan text = (v : Dialect) × (family_of v ≡ Plans) × IsPlanTextIn v p plan text

-- they are its text in the dialect that plans of the problem are written in
abbrev pub IsWrittenPlan : Problem → Plan → List ℕ → Type 0
IsWrittenPlan p plan text = IsPlanTextIn (plan_dialect_for p) p plan text

-- the number of a node that waits is as narrow
abbrev pub IsNarrowNode : GapKind → Type 0
IsNarrowNode (Closed kind) = IsNarrowKind kind
IsNarrowNode (Waiting n) = n < 2 ^ 128

-- what can be written of a gap plan and read again, where its nodes have the prefixes that are expected: a path of 1 to 32
-- positions, and at most 4,194,305 nodes, of kinds that have letters
pub record IsPrintableGap (p : Problem) (plan : GapPlan) : Type 0 where
  pub some : 1 ≤ length plan.standing.path
  pub short : length plan.standing.path ≤ 32
  pub positions : ArePositions p plan.standing.path
  pub few : length plan.nodes ≤ MOST_GAP_NODES
  pub kinds : All (λ node. IsPrintableKind p (shape_of node).kind) plan.nodes
  pub letters : HasGapLetters plan

pub record IsNarrowGap (plan : GapPlan) : Type 0 where
  pub value : plan.standing.value < 2 ^ 128
  pub weight : plan.weight < 2 ^ 128
  pub ceiling : plan.ceiling < 2 ^ 128
  pub nodes : All (λ node. IsNarrowNode node.kind) plan.nodes

-- the bytes are the one text of this gap plan, whose nodes have the prefixes that are expected
pub record IsGapText (p : Problem) (plan : GapPlan) (text : List ℕ) : Type 0 where
  pub printable : IsPrintableGap p plan
  pub narrow : IsNarrowGap plan
  pub in_place : AreInPlace p ([] ∷ []) (map shape_of plan.nodes)
  pub spelled : text ≡ gap_text p plan
