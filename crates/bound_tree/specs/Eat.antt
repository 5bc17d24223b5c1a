-- Acceptance told record by record: each prefix eats the records of its own tree and leaves the rest.
use Rattle.std.specs.Prelude.{List, [], ◌∷◌, ℕ, ◌↔◌}
use Rattle.search_model.specs.declared.standing.Standing.{Standing}
use Rattle.search_model.specs.Problem.{Problem}
use Rattle.bound_tree.specs.declared.node.TreeNode.{TreeNode}
use Rattle.bound_tree.specs.Accepts.{IsGood, expected_by, AreEaten}

-- these prefixes eat the first list, one after the other, and leave the second: the first record has the first prefix and
-- is good, and for a branch its children eat what follows, before the other prefixes do
pub data Eat (p : Problem) (s : Standing) : List (List ℕ) → List TreeNode → List TreeNode → Type 0 where
  done : {left : List TreeNode} → Eat p s [] left left
  next : {r : TreeNode} {qs : List (List ℕ)} {rs mid left : List TreeNode} →
      IsGood p s r → Eat p s (expected_by p r.prefix r.kind) rs mid → Eat p s qs mid left → Eat p s (r.prefix ∷ qs) (r ∷ rs) left

-- eaten whole by either definition
abbrev pub EatenByEither : Type 0
EatenByEither = (p : Problem) (s : Standing) (qs : List (List ℕ)) (rs : List TreeNode) → Eat p s qs rs [] ↔ AreEaten p s qs rs
