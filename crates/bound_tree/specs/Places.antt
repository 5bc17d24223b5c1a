-- The prefixes that records have where a text leaves them out.
use Rattle.std.specs.Prelude.{ℕ, ◌≡◌, ◌↔◌, nat_lt, if◌then◌else◌, List, [], ◌∷◌, ◌++◌, length, All, Option, Some, None}
use Rattle.search_model.specs.declared.standing.Standing.{Standing}
use Rattle.search_model.specs.Problem.{Problem}
use Rattle.bound_tree.specs.declared.node.Kind.{Kind}
use Rattle.bound_tree.specs.declared.node.TreeNode.{TreeNode}
use Rattle.bound_tree.specs.Accepts.{IsGood, expected_by, AreEaten}

-- the prefixes that a record makes expected before all others: the legal children of a branch, of which one that is as
-- long as the horizon has none
abbrev pub opened_by : Problem → List ℕ → Kind → List (List ℕ)
opened_by p q kind = if nat_lt (length q) p.horizon then expected_by p q kind else []

-- each record has the prefix that is expected, and none is expected behind the last
abbrev pub AreInPlace : Problem → List (List ℕ) → List TreeNode → Type 0
AreInPlace p [] [] = Unit {0}
AreInPlace p [] (r ∷ rs) = ⊥
AreInPlace p (q ∷ qs) [] = ⊥
AreInPlace p (q ∷ qs) (r ∷ rs) = (r.prefix ≡ q) × AreInPlace p (opened_by p q r.kind ++ qs) rs

-- the prefix that is expected next
abbrev pub first_of : List (List ℕ) → Option (List ℕ)
first_of [] = None
first_of (q ∷ qs) = Some q

-- what is expected behind a record of this kind that has it
abbrev pub expected_behind : Problem → List (List ℕ) → Kind → List (List ℕ)
expected_behind p [] kind = []
expected_behind p (q ∷ qs) kind = opened_by p q kind ++ qs

-- records are eaten where they are in place and each is good
abbrev pub EatenIsPlacedAndGood : Type 0
EatenIsPlacedAndGood = (p : Problem) (s : Standing) (qs : List (List ℕ)) (rs : List TreeNode) → AreEaten p s qs rs ↔ (AreInPlace p qs rs × All (IsGood p s) rs)

-- the records of an accepted plan are in place
abbrev pub EatenAreInPlace : Type 0
EatenAreInPlace = (p : Problem) (s : Standing) (qs : List (List ℕ)) (rs : List TreeNode) → AreEaten p s qs rs → AreInPlace p qs rs
