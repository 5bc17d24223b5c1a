-- The nodes of a search that stopped early.
use Rattle.std.specs.Prelude.{ℕ, List, [], ◌∷◌, ◌++◌, map}
use Rattle.std.specs.List.{flat_map}
use Rattle.search_model.specs.Problem.{Problem}
use Rattle.bound_tree.specs.declared.node.TreeNode.{TreeNode}
use Rattle.bound_tree.specs.declared.gap.Numbers.{Numbers}
use Rattle.bound_tree.specs.declared.gap.GapKind.{GapKind}
use Rattle.bound_tree.specs.declared.gap.GapKind.TheVariants.{Closed, Waiting}
use Rattle.bound_tree.specs.declared.gap.GapNode.{GapNode}
use Rattle.bound_tree.specs.Gaps.{closed_node, ceiling_of}

-- a prefix that waits, as a node that has no number yet
abbrev pub waiting_node : List ℕ → GapNode
waiting_node q = record { prefix = q; kind = Waiting 0 }

-- closed records and waiting prefixes as nodes
abbrev pub nodes_of : List TreeNode → List (List ℕ) → List GapNode
nodes_of closed waiting = map closed_node closed ++ map waiting_node waiting

-- a waiting node gets the ceiling of its prefix as its number; a closed one stays
abbrev pub numbered_kind : Numbers → Problem → List ℕ → GapKind → GapKind
numbered_kind numbers p q (Closed kind) = Closed kind
numbered_kind numbers p q (Waiting n) = Waiting (ceiling_of numbers p q)

abbrev pub numbered : Numbers → Problem → GapNode → GapNode
numbered numbers p node = record { prefix = node.prefix; kind = numbered_kind numbers p node.prefix node.kind }

-- the record of a closed node, and the prefix of a waiting one
abbrev pub record_at : List ℕ → GapKind → List TreeNode
record_at q (Closed kind) = record { prefix = q; kind = kind } ∷ []
record_at q (Waiting n) = []

abbrev pub prefix_at : List ℕ → GapKind → List (List ℕ)
prefix_at q (Closed kind) = []
prefix_at q (Waiting n) = q ∷ []

-- the records of the closed nodes
abbrev pub closed_in : List GapNode → List TreeNode
closed_in nodes = flat_map (λ node. record_at node.prefix node.kind) nodes

-- the prefixes of the waiting nodes
abbrev pub waiting_in : List GapNode → List (List ℕ)
waiting_in nodes = flat_map (λ node. prefix_at node.prefix node.kind) nodes
