-- Whether records have the prefixes that are expected, one after the other.
use Rattle.std.specs.Prelude.{ℕ, ◌↔◌, List, ◌∷◌, All}
use Rattle.search_model.specs.Problem.{Problem}
use Rattle.search_model.specs.Legal.{IsLegal}
use Rattle.bound_tree.specs.declared.node.TreeNode.{TreeNode}
use Rattle.bound_tree.specs.Places.{AreInPlace}

-- behind a record that has the first of the legal prefixes that are expected, these are
pub record IsTaken (p : Problem) (old : List (List ℕ)) (r : TreeNode) (new : List (List ℕ)) : Type 0 where
  pub legal : All (IsLegal p) old → All (IsLegal p) new
  pub left : All (IsLegal p) old → (rs : List TreeNode) → AreInPlace p old (r ∷ rs) ↔ AreInPlace p new rs

-- no records that begin with this one have the prefixes that are expected
abbrev pub IsOutOfPlace : Problem → List (List ℕ) → TreeNode → Type 0
IsOutOfPlace p expected r = (rs : List TreeNode) → AreInPlace p expected (r ∷ rs) → ⊥
