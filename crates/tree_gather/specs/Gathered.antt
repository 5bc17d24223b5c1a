-- The records of a tree, gathered.
use Rattle.std.specs.Prelude.{List, All}
use Rattle.std.specs.List.Sorted.{IsPermutation}
use Rattle.search_model.specs.declared.standing.Standing.{Standing}
use Rattle.search_model.specs.Problem.{Problem}
use Rattle.search_model.specs.Tracks.{whole_weight}
use Rattle.bound_tree.specs.declared.node.TreeNode.{TreeNode}
use Rattle.bound_tree.specs.Accepts.{IsGood, Accepts}
use Rattle.bound_tree.specs.Close.{IsExact}
use Rattle.search_core.specs.Laws.{IsPreorder}

-- the same records in preorder
pub record IsGathered (records tree : List TreeNode) : Type 0 where
  pub same : IsPermutation records tree
  pub preorder : IsPreorder tree

-- a tree is accepted with each exact standing under which each of these records is good in itself
abbrev pub IsAcceptedWhereGood : Problem → List TreeNode → List TreeNode → Type 0
IsAcceptedWhereGood p records tree =
    (s : Standing) → IsExact p s → All (IsGood p s) records → Accepts p (record { standing = s; weight = whole_weight p; tree = tree })
